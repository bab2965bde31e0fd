use Rattle.tucker_tableau.specs.Leading.{IsBest}
use Rattle.tucker_tableau.proofs.tableau.Tableau.greatest_ground.Given as goal

abbrev pub invariant-loop-i : goal.invariant-loop-i
invariant-loop-i l = IsBest l.self l.column l.i l.best
