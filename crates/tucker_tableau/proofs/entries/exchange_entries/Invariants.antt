use Rattle.tucker_tableau.specs.Cells.{AreRowsPivoted}
use Rattle.tucker_tableau.proofs.entries.exchange_entries.Given as goal

abbrev pub invariant-loop-i : goal.invariant-loop-i
invariant-loop-i l = AreRowsPivoted l.width l.initial.table l.table l.r l.s l.i
