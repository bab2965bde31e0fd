use Rattle.tucker_tableau.specs.Kept.{IsCounting}
use Rattle.tucker_tableau.proofs.first.numbers.Given as goal

abbrev pub invariant-loop-k : goal.invariant-loop-k
invariant-loop-k l = IsCounting l.from l.k l.arcs.items
