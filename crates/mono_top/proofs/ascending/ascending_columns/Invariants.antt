use Rattle.mono_top.specs.Ascending.{AreAscendingTo}
use Rattle.mono_top.proofs.ascending.ascending_columns.Given as goal

abbrev pub invariant-loop-arc : goal.invariant-loop-arc
invariant-loop-arc l = AreAscendingTo l.tableau.columns l.places.items l.arc
