-- What the tables of the code answer, said of the table that they stand for.
use Rattle.std.proofs.Common.{◌≡◌, ℕ, ◌<◌, List, [], ◌∷◌, ◌++◌, length, map, position, bytes_eq, None, refl, sym, ap, subst, ◌∙◌, arith}
use Rattle.std.specs.Prelude.{nat_eq}
use Rattle.std.specs.Cmp.Lexicographic.{pointwise}
use Rattle.std.specs.declared.vec.Vec.{Vec}
use Rattle.std.proofs.lemmas.List.{map_push, length-map}
use Rattle.indexmap.specs.IndexMap.{insert_entry}
use Rattle.theory.specs.Limits.{nodes_most, arcs_most}
use Rattle.model_text.specs.Model.{place_of}
use Rattle.model_text.specs.Names.{IsName}
use Rattle.model_text.proofs.Places.{positions_agree, fails_where_none}
use Rattle.model_text.proofs.Tables.{same_key, goes_last}
use Rattle.transport_front.specs.declared.table.Kind.{Kind as Held}
use Rattle.transport_front.specs.declared.table.Lane.{Lane as Joining}
use Rattle.transport_front.specs.Table.{Place, Lane, IsTable, IsKind, IsLane, place_names, lane_names}
use Rattle.transport_front.specs.TableText.{with_place, with_lane}
use Rattle.transport_front.specs.Rows.{kind_of, place_row, lane_row, rows_table}
use Rattle.transport_front.proofs.Keeping.{kept_with_place, kept_with_lane}

module _ {A : Type 0} where
  -- a look-up in a table finds the name's place
  pub place_found : (name : List ℕ) (places : List (Vec ℕ A × Held))
      → position (λ (key : Vec ℕ A). pointwise nat_eq name key.items) (map (λ row. row.0) places) ≡ place_of (map (λ (place : Place). place.name) (map place_row places)) name
  place_found name places = positions_agree (λ (key : Vec ℕ A). pointwise nat_eq name key.items) (bytes_eq name) (λ (row : Vec ℕ A × Held). row.0) place_row (λ (place : Place). place.name) (λ _. refl) places

  pub lane_found : (name : List ℕ) (lanes : List (Vec ℕ A × Joining))
      → position (λ (key : Vec ℕ A). pointwise nat_eq name key.items) (map (λ row. row.0) lanes) ≡ place_of (map (λ (lane : Lane). lane.name) (map lane_row lanes)) name
  lane_found name lanes = positions_agree (λ (key : Vec ℕ A). pointwise nat_eq name key.items) (bytes_eq name) (λ (row : Vec ℕ A × Joining). row.0) lane_row (λ (lane : Lane). lane.name) (λ _. refl) lanes

  pub place_inserted : (places : List (Vec ℕ A × Held)) (lanes : List (Vec ℕ A × Joining)) (key : Vec ℕ A) (kind : Held)
      → place_of (place_names (rows_table places lanes)) key.items ≡ None
      → rows_table (insert_entry same_key places key kind) lanes ≡ with_place (rows_table places lanes) key.items (kind_of kind)
  place_inserted places lanes key kind none =
      ap (λ rows. rows_table rows lanes) (goes_last key kind places (fails_where_none (same_key key) (map (λ row. row.0) places) (place_found key.items places ∙ none)))
      ∙ ap (λ rows. record { places = rows; lanes = map lane_row lanes }) (map_push place_row places (key, kind))

  pub lane_inserted : (places : List (Vec ℕ A × Held)) (lanes : List (Vec ℕ A × Joining)) (key : Vec ℕ A) (lane : Joining)
      → place_of (lane_names (rows_table places lanes)) key.items ≡ None
      → rows_table places (insert_entry same_key lanes key lane) ≡ with_lane (rows_table places lanes) key.items lane.from lane.to lane.pairs.items
  lane_inserted places lanes key lane none =
      ap (λ rows. rows_table places rows) (goes_last key lane lanes (fails_where_none (same_key key) (map (λ row. row.0) lanes) (lane_found key.items lanes ∙ none)))
      ∙ ap (λ rows. record { places = map place_row places; lanes = rows }) (map_push lane_row lanes (key, lane))

  -- the table keeps what it kept with the row that a name without a place adds
  pub place_keeps : (places : List (Vec ℕ A × Held)) (lanes : List (Vec ℕ A × Joining)) (key : Vec ℕ A) (kind : Held)
      → IsTable (rows_table places lanes) → IsName key.items → place_of (place_names (rows_table places lanes)) key.items ≡ None
      → length places < nodes_most → IsKind (kind_of kind)
      → IsTable (rows_table (insert_entry same_key places key kind) lanes)
  place_keeps places lanes key kind kept named none room is =
      subst IsTable (sym (place_inserted places lanes key kind none))
      (kept_with_place (rows_table places lanes) key.items (kind_of kind) kept named none (omega (arith, length-map places place_row)) is)

  pub lane_keeps : (places : List (Vec ℕ A × Held)) (lanes : List (Vec ℕ A × Joining)) (key : Vec ℕ A) (lane : Joining)
      → IsTable (rows_table places lanes) → IsName key.items → place_of (lane_names (rows_table places lanes)) key.items ≡ None
      → length lanes < arcs_most → IsLane (map place_row places) (record { name = key.items; from = lane.from; to = lane.to; pairs = lane.pairs.items })
      → IsTable (rows_table places (insert_entry same_key lanes key lane))
  lane_keeps places lanes key lane kept named none room is =
      subst IsTable (sym (lane_inserted places lanes key lane none))
      (kept_with_lane (rows_table places lanes) key.items lane.from lane.to lane.pairs.items kept named none (omega (arith, length-map lanes lane_row)) is)
