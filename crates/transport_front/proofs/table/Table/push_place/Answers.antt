-- The name has no place among the names, so the table puts its row last. The table keeps what it kept with that row, and as it was where
-- memory ran out.
use Rattle.std.proofs.Common.{sym, ap, subst, ◌∙◌, ◌<◌, length, arith}
use Rattle.theory.specs.Limits.{nodes_most}
use Rattle.model_text.specs.Names.{IsName}
use Rattle.model_text.proofs.Tables.{either_way, free}
use Rattle.std.proofs.lemmas.List.{length-map}
use Rattle.transport_front.specs.Table.{place_names, IsTable}
use Rattle.transport_front.specs.TableText.{with_place}
use Rattle.transport_front.specs.Rows.{rows_table, place_row, kind_of}
use Rattle.transport_front.proofs.RowLemmas.{place_inserted, place_keeps}
use Rattle.transport_front.proofs.table.Table.push_place.Goals as goal

pub invariant_of-self-inside : goal.invariant_of-self-inside
invariant_of-self-inside c =
    let places = c.self.inside.places.entries in
    let lanes = c.self.inside.lanes.entries in
    let key = c.into_vec.result in
    let none = free _ _ key.items _ c.requires.free c.into_vec.ensures (ap (λ m. place_names m.table) c.self.view_is) in
    let room : length places < nodes_most = omega (arith, c.requires.room, length-map places place_row, ap (λ m. length m.table.places) c.self.view_is) in (
      either_way (λ rows. IsTable (rows_table rows lanes)) c.insert.result places _ _ c.insert.ensures.entries c.insert.ensures.err c.self.inside.kept
          (place_keeps places lanes key c.args.kind c.self.inside.kept (subst IsName (sym c.into_vec.ensures) c.args.name.named) none room c.requires.kind),
      tt,
    )

pub returns-in-Ok : goal.returns-in-Ok
returns-in-Ok c =
    let places = c.self.inside.places.entries in
    let lanes = c.self.inside.lanes.entries in
    let key = c.into_vec.result in
    let none = free _ _ key.items _ c.requires.free c.into_vec.ensures (ap (λ m. place_names m.table) c.self.view_is) in
    ap (λ rows. rows_table rows lanes) c.in-Ok.ensures.entries ∙ place_inserted places lanes key c.args.kind none
    ∙ ap (λ m. with_place m.table key.items (kind_of c.args.kind)) c.self.view_is
    ∙ ap (λ name. with_place c.args.self.now.table name (kind_of c.args.kind)) c.into_vec.ensures
