use Rattle.std.proofs.Common.{◌≡◌, ◌<◌, length, ◌∙◌}
use Rattle.tucker_tableau.specs.Table.{Table}
use Rattle.tucker_tableau.proofs.Tables.{kept_unit}
use Rattle.tucker_tableau.proofs.tableau.Tableau.entry.Goals as goal

pub at-requires-clause-unit : goal.at-requires-clause-unit
at-requires-clause-unit c =
    let table : Table = record { rows = c.self.inside.rows.items; columns = c.self.inside.columns.items; entries = c.self.inside.entries.items } in
    let width : c.len.result ≡ length c.self.inside.columns.items = c.len.ensures ∙ c.self.inside.columns.ok.0 in
    let row : c.args.i < length table.rows = (rw (← c.self.view_is) at c.requires.row) in
    let column : c.args.j < length table.columns = (rw (← c.self.view_is) at c.requires.column) in
    rw (c.as_slice.ensures.value, width) (kept_unit table c.self.invariant c.args.i c.args.j row column)
