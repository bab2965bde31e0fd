-- What the three lists are after the writes is a pivoted table; the rest follows for whole tables.
use Rattle.std.proofs.Common.{◌≡◌, ◌<◌, ℤ, pos, ◌≢◌, List, length, set, sym, ap, ◌∙◌, subst, length-set}
use Rattle.std.proofs.lemmas.List.{with_items_is}
use Rattle.std.specs.Vec.{with_items}
use Rattle.tucker_tableau.specs.Tableau.{number}
use Rattle.tucker_tableau.specs.Table.{Table, entry, IsTableauOf}
use Rattle.tucker_tableau.specs.Pivoted.{IsPivoted}
use Rattle.tucker_tableau.specs.Cells.{IsTablePivoted}
use Rattle.tucker_tableau.proofs.Tables.{kept_unit, pivoted_table, pivoted_kept, pivoted_again, pivoted_tableau}
use Rattle.tucker_tableau.proofs.tableau.Tableau.exchange.Goals as goal

abbrev old_table : goal.After-self-3-1 → Table
old_table c = record { rows = c.self.inside.rows.items; columns = c.self.inside.columns.items; entries = c.self.inside.entries.items }

abbrev new_table : goal.After-self-3-1 → Table
new_table c = record {
  rows = (with_items c.self.inside.rows c.exchange_arcs.new.rows).items;
  columns = (with_items c.self.inside.columns c.exchange_arcs.new.columns).items;
  entries = (with_items c.self.inside.entries c.exchange_entries.new.table).items;
}

new_rows : (c : goal.After-self-3-1) → (new_table c).rows ≡ set (old_table c).rows c.args.i (number (old_table c).columns c.args.j)
new_rows c =
    let is : c.exchange_arcs.new.rows ≡ set (old_table c).rows c.args.i (number (old_table c).columns c.args.j) =
    (rw (c.deref_mut-2.ensures.value, c.deref_mut-3.ensures.value) at c.exchange_arcs.ensures.rows) in
    with_items_is c.self.inside.rows c.exchange_arcs.new.rows
    (ap length is ∙ length-set (old_table c).rows c.args.i (number (old_table c).columns c.args.j) ∙ sym c.self.inside.rows.ok.0) ∙ is

new_columns : (c : goal.After-self-3-1) → (new_table c).columns ≡ set (old_table c).columns c.args.j (number (old_table c).rows c.args.i)
new_columns c =
    let is : c.exchange_arcs.new.columns ≡ set (old_table c).columns c.args.j (number (old_table c).rows c.args.i) =
    (rw (c.deref_mut-2.ensures.value, c.deref_mut-3.ensures.value) at c.exchange_arcs.ensures.columns) in
    with_items_is c.self.inside.columns c.exchange_arcs.new.columns
    (ap length is ∙ length-set (old_table c).columns c.args.j (number (old_table c).rows c.args.i) ∙ sym c.self.inside.columns.ok.0) ∙ is

new_entries : (c : goal.After-self-3-1) → IsTablePivoted (length (old_table c).rows) (length (old_table c).columns) (old_table c).entries (new_table c).entries c.args.i c.args.j
new_entries c =
    let now = c.exchange_entries.new.table in
    let height : c.len-height.result ≡ length (old_table c).rows = c.len-height.ensures ∙ c.self.inside.rows.ok.0 in
    let width : c.len-width.result ≡ length (old_table c).columns = c.len-width.ensures ∙ c.self.inside.columns.ok.0 in
    let changed : IsTablePivoted (length (old_table c).rows) (length (old_table c).columns) (old_table c).entries now c.args.i c.args.j =
    (rw (height, width, c.deref_mut.ensures.value) at c.exchange_entries.ensures) in
    let is : (new_table c).entries ≡ now = with_items_is c.self.inside.entries now (changed.size ∙ sym c.self.inside.entries.ok.0) in
    let P : List ℤ → Type 0 = λ table. IsTablePivoted (length (old_table c).rows) (length (old_table c).columns) (old_table c).entries table c.args.i c.args.j in
    subst P (sym is) changed

exchanged : (c : goal.After-self-3-1) → IsPivoted (old_table c) (new_table c) c.args.i c.args.j
exchanged c = pivoted_table (old_table c) (new_table c) c.args.i c.args.j (new_rows c) (new_columns c) (new_entries c)

row : (c : goal.After-self-3-1) → c.args.i < length (old_table c).rows
row c = rw (← c.self.view_is) at c.requires.row

column : (c : goal.After-self-3-1) → c.args.j < length (old_table c).columns
column c = rw (← c.self.view_is) at c.requires.column

passes : (c : goal.After-self-3-1) → entry (old_table c) c.args.i c.args.j ≢ pos 0
passes c = rw (← c.self.view_is) at c.requires.passes

pub exchange_entries-requires-clause-units : goal.exchange_entries-requires-clause-units
exchange_entries-requires-clause-units c =
    let table : Table = record { rows = c.self.inside.rows.items; columns = c.self.inside.columns.items; entries = c.self.inside.entries.items } in
    let height : c.len-height.result ≡ length c.self.inside.rows.items = c.len-height.ensures ∙ c.self.inside.rows.ok.0 in
    let width : c.len-width.result ≡ length c.self.inside.columns.items = c.len-width.ensures ∙ c.self.inside.columns.ok.0 in
    λ i l j m. rw (c.deref_mut.ensures.value, width) (kept_unit table c.self.invariant i j (rw height at l) (rw width at m))

pub invariant_of-self : goal.invariant_of-self
invariant_of-self c = pivoted_kept (old_table c) (new_table c) c.args.i c.args.j c.self.invariant (row c) (column c) (passes c) (exchanged c)

pub returns-clause-exchanged : goal.returns-clause-exchanged
returns-clause-exchanged c = rw (← c.self.view_is) (exchanged c)

pub returns-clause-again : goal.returns-clause-again
returns-clause-again c = λ next q.
    pivoted_again (old_table c) (new_table c) next c.args.i c.args.j c.self.invariant (row c) (column c) (passes c) (exchanged c) q ∙ c.self.view_is

pub returns-clause-tableau : goal.returns-clause-tableau
returns-clause-tableau c = λ net good t.
    let before : IsTableauOf net (old_table c) = (rw (← c.self.view_is) at t) in
    pivoted_tableau net (old_table c) (new_table c) c.args.i c.args.j good before (row c) (column c) (passes c) (exchanged c)
