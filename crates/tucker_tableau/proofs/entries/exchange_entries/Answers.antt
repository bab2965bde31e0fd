use Rattle.tucker_tableau.proofs.Cells.{rows-more, rows-skip}
use Rattle.tucker_tableau.proofs.entries.exchange_entries.Goals as goal
use Rattle.tucker_tableau.proofs.entries.exchange_entries.Goals.{then-i-r, else-i-r}

pub loop-i-preserved : goal.loop-i-preserved
loop-i-preserved c =
    elim c.if-i-r.branch [
      | then-i-r w ↦ rw w.table-is (rows-more c.args.width c.args.table.now c.loop-i.table w.exchange_row.new.table c.args.r c.args.s c.loop-i.i c.requires.column w.if-i-r.true c.loop-i.invariant w.exchange_row.ensures)
      | else-i-r w ↦ rw w.table-is (rows-skip c.args.width c.args.table.now c.loop-i.table c.args.r c.args.s c.loop-i.i w.if-i-r.false c.loop-i.invariant)
    ]
