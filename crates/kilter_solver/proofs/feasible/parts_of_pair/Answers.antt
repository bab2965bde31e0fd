use Rattle.kilter_solver.proofs.Pairs.{pair-flow, pair-potential}
use Rattle.kilter_solver.proofs.feasible.parts_of_pair.Goals as goal

pub yes_flow-requires-clause-feasible : goal.yes_flow-requires-clause-feasible
yes_flow-requires-clause-feasible c =
    pair-flow c.args.g.now.network c.args.flows.now c.args.potentials.now c.requires.flows c.requires.pair

pub yes_tension-requires-clause-feasible : goal.yes_tension-requires-clause-feasible
yes_tension-requires-clause-feasible c =
    pair-potential c.args.g.now.network c.args.flows.now c.args.potentials.now c.args.g.now.good.is_network c.requires.potentials c.requires.pair
