use Rattle.std.proofs.Common.{to_z, of_z}
use Rattle.std.specs.Int.{w8}
use Rattle.tucker_tableau.proofs.Cells.{scaled-step}
use Rattle.tucker_tableau.proofs.entries.turn_row.Goals as goal

pub loop-j-preserved : goal.loop-j-preserved
loop-j-preserved c =
    scaled-step c.args.width c.args.table.now c.loop-j.table c.args.r (to_z w8 (of_z w8 c.args.p)) c.loop-j.j c.opposite.result
    c.requires.row c.loop-j-test.true c.requires.units c.loop-j.invariant (record { sfits = c.opposite.type_inv }) c.opposite.ensures
