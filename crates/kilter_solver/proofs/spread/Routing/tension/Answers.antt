use Rattle.std.proofs.Common.{arith}
use Rattle.std.proofs.lemmas.Int.{ints}
use Rattle.kilter_solver.proofs.spread.Routing.tension.Goals as goal

pub returns-clause-within : goal.returns-clause-within
returns-clause-within g c =
    let there = c.potential.ensures in
    let here = c.potential-2.ensures in
    let low_to = (c.requires.potentials c.to.result.0).0 in
    let high_to = (c.requires.potentials c.to.result.0).1 in
    let low_from = (c.requires.potentials c.from.result.0).0 in
    let high_from = (c.requires.potentials c.from.result.0).1 in
    (omega (arith, ints), omega (arith, ints))
