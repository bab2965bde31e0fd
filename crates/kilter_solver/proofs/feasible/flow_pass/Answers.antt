use Rattle.std.proofs.Common.{◌∙◌, ap}
use Rattle.net_incidence.specs.Graph.{network}
use Rattle.kilter_solver.proofs.Parts.{flow-of, cut-of}
use Rattle.kilter_solver.proofs.feasible.flow_pass.Goals as goal

pub yes_flow-requires-clause-feasible : goal.yes_flow-requires-clause-feasible
yes_flow-requires-clause-feasible g c =
    let is = ap (network c.net-net.result.now) c.curves-curves.ensures ∙ c.net-net.ensures in
    rw c.flows.ensures
    (flow-of c.net-net.result.now c.curves-curves.result.now c.args.g.now.network is c.feasible_flow.new.work.flows
    (c.feasible_flow.ensures.flow c.in-Flow.is))

pub no_flow-requires-clause-negative : goal.no_flow-requires-clause-negative
no_flow-requires-clause-negative g c =
    let is = ap (network c.net-net.result.now) c.curves-curves.ensures ∙ c.net-net.ensures in
    cut-of c.net-net.result.now c.curves-curves.result.now c.args.g.now.network is c.feasible_flow.new.work.reached
    (c.feasible_flow.ensures.cut c.in-Cut.is)
