-- The name has no place among the names, so the table puts its row last. The table keeps what it kept with that row, and as it was where
-- memory ran out.
use Rattle.std.proofs.Common.{sym, ap, subst, ◌∙◌, ◌<◌, length, arith}
use Rattle.theory.specs.Limits.{arcs_most}
use Rattle.model_text.specs.Names.{IsName}
use Rattle.model_text.proofs.Tables.{either_way, free}
use Rattle.std.proofs.lemmas.List.{length-map}
use Rattle.transport_front.specs.Table.{lane_names, IsTable, IsLane}
use Rattle.transport_front.specs.TableText.{with_lane}
use Rattle.transport_front.specs.Rows.{rows_table, lane_row}
use Rattle.transport_front.proofs.RowLemmas.{lane_inserted, lane_keeps}
use Rattle.transport_front.proofs.table.Table.push_lane.Goals as goal

pub invariant_of-self-inside : goal.invariant_of-self-inside
invariant_of-self-inside c =
    let places = c.self.inside.places.entries in
    let lanes = c.self.inside.lanes.entries in
    let key = c.into_vec.result in
    let lane = c.args.lane in
    let none = free _ _ key.items _ c.requires.free c.into_vec.ensures (ap (λ m. lane_names m.table) c.self.view_is) in
    let room : length lanes < arcs_most = omega (arith, c.requires.room, length-map lanes lane_row, ap (λ m. length m.table.lanes) c.self.view_is) in
    let joined = subst (λ name. IsLane (rows_table places lanes).places (record { name = name; from = lane.from; to = lane.to; pairs = lane.pairs.items })) (sym c.into_vec.ensures)
    (subst (λ m. IsLane m.table.places (record { name = c.args.name.bytes; from = lane.from; to = lane.to; pairs = lane.pairs.items })) (sym c.self.view_is) c.requires.joined) in (
      either_way (λ rows. IsTable (rows_table places rows)) c.insert.result lanes _ _ c.insert.ensures.entries c.insert.ensures.err c.self.inside.kept
          (lane_keeps places lanes key lane c.self.inside.kept (subst IsName (sym c.into_vec.ensures) c.args.name.named) none room joined),
      tt,
    )

pub returns-in-Ok : goal.returns-in-Ok
returns-in-Ok c =
    let places = c.self.inside.places.entries in
    let lanes = c.self.inside.lanes.entries in
    let key = c.into_vec.result in
    let lane = c.args.lane in
    let none = free _ _ key.items _ c.requires.free c.into_vec.ensures (ap (λ m. lane_names m.table) c.self.view_is) in
    ap (λ rows. rows_table places rows) c.in-Ok.ensures.entries ∙ lane_inserted places lanes key lane none
    ∙ ap (λ m. with_lane m.table key.items lane.from lane.to lane.pairs.items) c.self.view_is
    ∙ ap (λ name. with_lane c.args.self.now.table name lane.from lane.to lane.pairs.items) c.into_vec.ensures
