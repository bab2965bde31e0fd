use Rattle.std.proofs.Common.{to_z, of_z}
use Rattle.std.specs.Int.{w8}
use Rattle.tucker_tableau.proofs.Cells.{less-step}
use Rattle.tucker_tableau.proofs.entries.subtract_row.Goals as goal

pub loop-j-preserved : goal.loop-j-preserved
loop-j-preserved c =
    less-step c.args.width c.args.table.now c.loop-j.table c.args.r c.args.i (to_z w8 (of_z w8 c.args.factor)) c.loop-j.j c.less.result
    c.requires.row c.requires.apart c.loop-j-test.true c.requires.pivot_units c.requires.units c.loop-j.invariant (record { sfits = c.less.type_inv }) c.less.ensures
