use Rattle.mono_top.specs.Ascending.{AreAscendingTo}
use Rattle.mono_top.proofs.ascending.ascending_rows.Given as goal

abbrev pub invariant-loop-arc : goal.invariant-loop-arc
invariant-loop-arc l = AreAscendingTo l.tableau.rows l.places.items l.arc
