use Rattle.std.proofs.Common.{rules, SFits, to_z-of_z}
use mir.Syntax.{w128}
use Rattle.kilter_solver.proofs.Pairs.{valid-pair}
use Rattle.kilter_solver.proofs.certifying.pair_of.Goals as goal

pub returns-clause-valid : goal.returns-clause-valid
returns-clause-valid c =
    let net = c.args.g.now.network in
    let cost = c.total_cost-cost.result in
    let fits : SFits w128 cost = search rules in
    rw (to_z-of_z fits)
    (valid-pair net c.args.x c.args.u cost c.args.g.now.good.is_network
    c.requires.flows c.requires.potentials c.requires.pair (rw c.as_slice.ensures at c.total_cost-cost.ensures.value) c.total_cost-cost.ensures.within)
