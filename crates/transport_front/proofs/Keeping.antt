-- The empty table keeps what every table keeps, and a table goes on to with a further place and with a further lane.
use Rattle.std.proofs.Common.{◌≡◌, ℕ, ◌<◌, List, [], ◌∷◌, ◌++◌, length, None, true, sym, ap, subst, arith}
use Rattle.std.proofs.lemmas.List.{map_push, length_push, get_or_append_left}
use Rattle.std.proofs.lemmas.List.Elements.{All-push}
use Rattle.theory.specs.Limits.{nodes_most, arcs_most}
use Rattle.model_text.specs.Names.{IsName}
use Rattle.model_text.specs.Model.{AreNames, place_of}
use Rattle.model_text.proofs.Forming.{names_push}
use Rattle.transport_front.specs.declared.pair.Pair.{Pair}
use Rattle.transport_front.specs.Table.{Kind, Place, Lane, Table, IsKind, IsLane, IsTable, is_plant, is_shop, place_names, lane_names}
use Rattle.transport_front.specs.Table.Kind.{plant, shop}
use Rattle.transport_front.specs.TableText.{no_table, with_place, with_lane}

pub kept_empty : IsTable no_table
kept_empty = record {
  few_places = omega arith;
  few_lanes = omega arith;
  places_named = record { each = λ k d here. absurd (omega arith); differ = λ i j d less here. absurd (omega arith) };
  lanes_named = record { each = λ k d here. absurd (omega arith); differ = λ i j d less here. absurd (omega arith) };
  kinds = λ i d here. absurd (omega arith);
  joined = λ j d here. absurd (omega arith);
}

-- a lane joins what it joined where a place is added behind the others
still_joined : (places : List Place) (place : Place) (lane : Lane) → IsLane places lane → IsLane (places ++ place ∷ []) lane
still_joined places place lane joined =
    let none : Place = record { name = []; kind = shop 0 } in
    let longer = length_push places place in
    record {
      tail = omega (arith, longer, joined.tail);
      head = omega (arith, longer, joined.head);
      from_plant = subst (λ (p : Place). is_plant p.kind ≡ true) (sym (get_or_append_left places (place ∷ []) none lane.from joined.tail)) joined.from_plant;
      to_shop = subst (λ (p : Place). is_shop p.kind ≡ true) (sym (get_or_append_left places (place ∷ []) none lane.to joined.head)) joined.to_shop;
      pairs = joined.pairs;
    }

pub kept_with_place : (t : Table) (name : List ℕ) (kind : Kind) → IsTable t → IsName name → place_of (place_names t) name ≡ None → length t.places < nodes_most → IsKind kind
    → IsTable (with_place t name kind)
kept_with_place t name kind kept named none room is =
    record {
      few_places = omega (arith, length_push t.places (record { name = name; kind = kind }));
      few_lanes = kept.few_lanes;
      places_named = subst AreNames (sym (map_push (λ (place : Place). place.name) t.places _)) (names_push (place_names t) name kept.places_named named none);
      lanes_named = kept.lanes_named;
      kinds = All-push (λ (place : Place). IsKind place.kind) t.places _ kept.kinds is;
      joined = λ j d here. still_joined t.places _ _ (kept.joined j d here);
    }

pub kept_with_lane : (t : Table) (name : List ℕ) (tail head : ℕ) (pairs : List Pair) → IsTable t → IsName name → place_of (lane_names t) name ≡ None
    → length t.lanes < arcs_most → IsLane t.places (record { name = name; from = tail; to = head; pairs = pairs })
    → IsTable (with_lane t name tail head pairs)
kept_with_lane t name tail head pairs kept named none room is =
    record {
      few_places = kept.few_places;
      few_lanes = omega (arith, length_push t.lanes (record { name = name; from = tail; to = head; pairs = pairs }));
      places_named = kept.places_named;
      lanes_named = subst AreNames (sym (map_push (λ (lane : Lane). lane.name) t.lanes _)) (names_push (lane_names t) name kept.lanes_named named none);
      kinds = kept.kinds;
      joined = All-push (λ (lane : Lane). IsLane t.places lane) t.lanes _ kept.joined is;
    }
