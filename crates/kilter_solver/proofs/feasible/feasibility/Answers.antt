use Rattle.std.proofs.Common.{◌+◌, ◌≤◌, ◌∙◌, ap, length, arith}
use Rattle.theory.specs.Network.{Network}
use Rattle.net_incidence.specs.Graph.{network}
use Rattle.kilter_solver.proofs.Parts.{pair-of, cut-of}
use Rattle.kilter_solver.proofs.Fuelled.{fuelled}
use Rattle.kilter_solver.proofs.RightKind.{flow_kind_where, tension_kind_where}
use Rattle.kilter_solver.proofs.feasible.feasibility.Goals as goal
use Rattle.kilter_solver.proofs.feasible.feasibility.Goals.{in_default-via-in-Pair+else-is_in_kilter, in_default-via-in-Cut+else-is_negative_cut, in_default-via-in_default}

pub parts_of_pair-requires-clause-pair : goal.parts_of_pair-requires-clause-pair
parts_of_pair-requires-clause-pair g c =
    let is = ap (network c.net-net.result.now) c.curves-curves.ensures ∙ c.net-net.ensures in
    rw (c.flows.ensures, c.potentials.ensures)
    (pair-of c.net-net.result.now c.curves-curves.result.now c.args.g.now.network is c.draw.new.work.flows c.draw.new.work.potentials
    (c.is_in_kilter.ensures.pair c.if-is_in_kilter.true))

pub returns-in-Pair-clause-flow_kind : goal.returns-in-Pair-clause-flow_kind
returns-in-Pair-clause-flow_kind g c =
    flow_kind_where c.args.g.now.network c.args.g.now.good.is_network c.parts_of_pair.result c.parts_of_pair.ensures.flow

pub returns-in-Pair-clause-tension_kind : goal.returns-in-Pair-clause-tension_kind
returns-in-Pair-clause-tension_kind g c =
    tension_kind_where c.args.g.now.network c.args.g.now.good.is_network c.parts_of_pair.result c.parts_of_pair.ensures.tension

pub returns-in-Pair-clause-count : goal.returns-in-Pair-clause-count
returns-in-Pair-clause-count g c =
    fuelled c.args.g.now.network.nodes (length c.args.g.now.network.arcs) c.net-net.result.now.nodes (length c.net-net.result.now.arcs)
    c.fuel_of.result c.args.steps.now c.draw.new.steps c.is_in_kilter.new.steps c.is_in_kilter.new.steps
    (ap (λ (n : Network). n.nodes) c.net-net.ensures) (ap (λ (n : Network). length n.arcs) c.net-net.ensures)
    c.fuel_of.ensures c.draw.ensures.count c.is_in_kilter.ensures.count (omega arith)

pub parts_with_cut-requires-clause-negative : goal.parts_with_cut-requires-clause-negative
parts_with_cut-requires-clause-negative g c =
    let is = ap (network c.net-net.result.now) c.curves-curves.ensures ∙ c.net-net.ensures in
    cut-of c.net-net.result.now c.curves-curves.result.now c.args.g.now.network is c.draw.new.work.reached
    (c.is_negative_cut.ensures.cut c.if-is_negative_cut.true)

pub returns-in-Cut-clause-flow_kind : goal.returns-in-Cut-clause-flow_kind
returns-in-Cut-clause-flow_kind g c =
    flow_kind_where c.args.g.now.network c.args.g.now.good.is_network c.parts_with_cut.result c.parts_with_cut.ensures.flow

pub returns-in-Cut-clause-tension_kind : goal.returns-in-Cut-clause-tension_kind
returns-in-Cut-clause-tension_kind g c =
    tension_kind_where c.args.g.now.network c.args.g.now.good.is_network c.parts_with_cut.result c.parts_with_cut.ensures.tension

pub returns-clause-flow_kind : goal.returns-clause-flow_kind
returns-clause-flow_kind g c =
    flow_kind_where c.args.g.now.network c.args.g.now.good.is_network c.both_passes.result c.both_passes.ensures.flow

pub returns-clause-tension_kind : goal.returns-clause-tension_kind
returns-clause-tension_kind g c =
    tension_kind_where c.args.g.now.network c.args.g.now.good.is_network c.both_passes.result c.both_passes.ensures.tension

pub returns-in-Cut-clause-count : goal.returns-in-Cut-clause-count
returns-in-Cut-clause-count g c =
    fuelled c.args.g.now.network.nodes (length c.args.g.now.network.arcs) c.net-net.result.now.nodes (length c.net-net.result.now.arcs)
    c.fuel_of.result c.args.steps.now c.draw.new.steps c.is_negative_cut.new.steps c.parts_with_cut.new.steps
    (ap (λ (n : Network). n.nodes) c.net-net.ensures) (ap (λ (n : Network). length n.arcs) c.net-net.ensures)
    c.fuel_of.ensures c.draw.ensures.count c.is_negative_cut.ensures.count (omega (arith, c.parts_with_cut.ensures.count))

pub returns-clause-count : goal.returns-clause-count
returns-clause-count g c =
    let m = length c.net-net.result.now.arcs in
    let tested : c.in_default.steps ≤ c.draw.new.steps + m =
    elim c.in_default.branch [
      | in_default-via-in-Pair+else-is_in_kilter w ↦ omega (arith, w.steps-is, w.is_in_kilter.ensures.count)
      | in_default-via-in-Cut+else-is_negative_cut w ↦ omega (arith, w.steps-is, w.is_negative_cut.ensures.count)
      | in_default-via-in_default w ↦ omega (arith, w.steps-is)
    ] in
    fuelled c.args.g.now.network.nodes (length c.args.g.now.network.arcs) c.net-net.result.now.nodes m
    c.fuel_of.result c.args.steps.now c.draw.new.steps c.in_default.steps c.both_passes.new.steps
    (ap (λ (n : Network). n.nodes) c.net-net.ensures) (ap (λ (n : Network). length n.arcs) c.net-net.ensures)
    c.fuel_of.ensures c.draw.ensures.count tested (omega (arith, c.both_passes.ensures.count))
