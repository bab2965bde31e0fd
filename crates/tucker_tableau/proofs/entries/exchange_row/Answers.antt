use Rattle.std.proofs.Common.{refl, to_z, of_z}
use Rattle.std.specs.Int.{w8}
use Rattle.tucker_tableau.specs.Table.{cell}
use Rattle.tucker_tableau.proofs.Cells.{row-pivoted, row-untouched, factor-is, zero8, unit_fits}
use Rattle.tucker_tableau.proofs.entries.exchange_row.Goals as goal

pub returns-then-passing-ne0 : goal.returns-then-passing-ne0
returns-then-passing-ne0 c =
    let factor = to_z w8 (of_z w8 c.times-factor.result) in
    row-pivoted c.args.width c.args.table.now c.subtract_row.new.table c.args.r c.args.s c.args.i factor factor
    c.requires.row c.requires.apart c.requires.column c.subtract_row.ensures
    (factor-is c.args.width c.args.table.now c.args.r c.args.s c.args.i c.times-factor.result c.requires.column c.requires.pivot_units c.requires.units
    (record { sfits = c.times-factor.type_inv }) c.times-factor.ensures.value)
    refl

pub returns-else-passing-ne0 : goal.returns-else-passing-ne0
returns-else-passing-ne0 c =
    let passing = cell c.args.table.now c.args.width c.args.i c.args.s in
    row-untouched c.args.width c.args.table.now c.args.r c.args.s c.args.i c.requires.apart
    (zero8 passing (unit_fits passing (c.requires.units c.args.s c.requires.column)) c.if-passing-ne0.false)
