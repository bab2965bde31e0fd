use Rattle.tucker_tableau.specs.Cells.{IsScaledRow}
use Rattle.tucker_tableau.proofs.entries.turn_row.Given as goal

abbrev pub invariant-loop-j : goal.invariant-loop-j
invariant-loop-j l = IsScaledRow l.width l.initial.table l.table l.r l.p l.j
