use Rattle.std.proofs.Common.{◌∙◌, ap}
use Rattle.net_incidence.specs.Graph.{network}
use Rattle.kilter_solver.proofs.Parts.{potential-of, circuit-of}
use Rattle.kilter_solver.proofs.feasible.tension_pass.Goals as goal

pub yes_tension-requires-clause-feasible : goal.yes_tension-requires-clause-feasible
yes_tension-requires-clause-feasible g c =
    let is = ap (network c.net-net.result.now) c.curves-curves.ensures ∙ c.net-net.ensures in
    rw c.potentials.ensures
    (potential-of c.net-net.result.now c.curves-curves.result.now c.args.g.now.network is c.feasible_tension.new.work.potentials
    (c.feasible_tension.ensures.potential c.in-Potential.is))

pub no_tension-requires-clause-negative : goal.no_tension-requires-clause-negative
no_tension-requires-clause-negative g c =
    let is = ap (network c.net-net.result.now) c.curves-curves.ensures ∙ c.net-net.ensures in
    circuit-of c.net-net.result.now c.curves-curves.result.now c.args.g.now.network is c.feasible_tension.new.work.walk
    (c.feasible_tension.ensures.circuit c.in-Circuit.is)
