use Rattle.tucker_tableau.specs.Cells.{IsLessRow}
use Rattle.tucker_tableau.proofs.entries.subtract_row.Given as goal

abbrev pub invariant-loop-j : goal.invariant-loop-j
invariant-loop-j l = IsLessRow l.width l.initial.table l.table l.r l.i l.factor l.j
