use Rattle.tucker_tableau.proofs.Cells.{marked, read8}
use Rattle.tucker_tableau.proofs.entries.mark.Goals as goal
use Rattle.std.proofs.Common.{to_z, of_z}
use Rattle.std.specs.Int.{w8}

pub returns-then-node-gt0 : goal.returns-then-node-gt0
returns-then-node-gt0 c =
    marked c.args.width c.args.table.now c.args.node c.args.column c.args.value (to_z w8 (of_z w8 c.args.value)) c.if-node-gt0.true c.requires.row c.requires.column
    (read8 c.args.value c.ranges.value)
