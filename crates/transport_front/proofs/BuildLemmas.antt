-- The model is built place by place and then lane by lane. The name of a further one is none of those before it, since names differ; there is
-- room, since a table has no more places and lanes than a model may have.
use Rattle.std.proofs.Common.{◌≡◌, ◌≢◌, ℕ, zero, suc, ◌+◌, ◌<◌, ◌≤◌, ℤ, pos, neg_ℤ, true, false, List, [], ◌∷◌, ◌++◌, map, take, length, get_or, None, refl, sym, ap, subst, ◌∙◌, arith, bytes_eq}
use Rattle.std.specs.Prelude.{nat_lt, nat_le, is_some, ◌==◌, All, AllPairs}
use Rattle.std.specs.List.{position_or_len}
use Rattle.std.specs.Cmp.Lexicographic.{bytes_decides}
use Rattle.std.proofs.lemmas.Bool.Decides.{nat_tests}
use Rattle.std.proofs.lemmas.Bool.{ne_eqb}
use Rattle.std.proofs.lemmas.Int.{ints}
use Rattle.std.proofs.lemmas.Grind.{take_at_read}
use Rattle.std.proofs.lemmas.List.{length-map, length-take-le, get_or-take, get_or-map, take-map, map_push}
use Rattle.theory.specs.declared.ext.Ext.TheVariants.{At}
use Rattle.theory.specs.Grounded.{Entries, NodeEntry, ArcEntry}
use Rattle.theory.specs.Limits.{nodes_most, arcs_most, list_most, number_most, IsWithin}
use Rattle.model_text.specs.Model.{place_of, node_names, arc_names, node_fault, arc_fault, with_node, with_arc, AreNames}
use Rattle.model_text.specs.Names.{IsName}
use Rattle.transport_front.specs.Table.{Kind, Place, Lane, Table, IsTable, IsKind, place_at, lane_at, place_names, lane_names, place_node, lane_arc, compiled, listed, priced, supply_items}
use Rattle.transport_front.specs.Table.Kind.{plant, shop}
use Rattle.transport_front.proofs.CurveLemmas.{length-priced}
use Rattle.transport_front.proofs.Compiled.{apart}

-- ---- names

other_bytes : (name other : List ℕ) → other ≢ name → bytes_eq name other ≡ false
other_bytes name other differ =
    elim (bytes_eq name other) as (λ b. bytes_eq name other ≡ b → b ≡ false)
    [ true ↦ λ e. absurd (differ (sym ((bytes_decides name other).0 e))) | false ↦ λ e. refl ] refl

passes_all : (name : List ℕ) (names : List (List ℕ)) → ((k : ℕ) → k < length names → get_or names k [] ≢ name) → position_or_len (bytes_eq name) names ≡ length names
passes_all name [] each = refl
passes_all name (other ∷ names) each =
    let so_far : position_or_len (bytes_eq name) names ≡ length names = passes_all name names (λ k there. each (suc k) (omega arith)) in
    rw (other_bytes name other (each 0 (omega arith))) (omega (arith, so_far))

no_place : (name : List ℕ) (names : List (List ℕ)) → ((k : ℕ) → k < length names → get_or names k [] ≢ name) → place_of names name ≡ None
no_place name names each =
    let past : nat_lt (length names) (length names) ≡ false = grind (arith, nat_tests) in
    rw (passes_all name names each, past) refl

-- a name is none of those before it
new_name : (names : List (List ℕ)) (i : ℕ) → AreNames names → i < length names → place_of (take i names) (get_or names i []) ≡ None
new_name names i are there =
    no_place (get_or names i []) (take i names)
    (λ k below. (
    let before : k < i = omega (arith, length-take-le i names) in
    subst (λ (other : List ℕ). other ≢ get_or names i []) (sym (get_or-take i names k [] before)) (are.differ k i [] before there)))

node-names : (places : List Place) → map (λ (node : NodeEntry). node.name) (map place_node places) ≡ map (λ (place : Place). place.name) places
node-names [] = refl
node-names (place ∷ places) = ap (λ names. place.name ∷ names) (node-names places)

arc-names : (lanes : List Lane) → map (λ (arc : ArcEntry). arc.name) (map lane_arc lanes) ≡ map (λ (lane : Lane). lane.name) lanes
arc-names [] = refl
arc-names (lane ∷ lanes) = ap (λ names. lane.name ∷ names) (arc-names lanes)

-- ---- the model so far

abbrev pub nodes_to : Table → ℕ → Entries
nodes_to t i = record { nodes = map place_node (take i t.places); arcs = [] }

abbrev pub arcs_to : Table → ℕ → Entries
arcs_to t j = record { nodes = map place_node t.places; arcs = map lane_arc (take j t.lanes) }

module _ (t : Table) (kept : IsTable t) where
  pub place_named : (i : ℕ) → i < length t.places → IsName (place_at t i).name
  place_named i there =
      subst IsName (get_or-map (λ (place : Place). place.name) t.places i (record { name = []; kind = shop 0 }) [] there)
      (kept.places_named.each i [] (omega (arith, length-map t.places (λ (place : Place). place.name))))

  pub lane_named : (j : ℕ) → j < length t.lanes → IsName (lane_at t j).name
  lane_named j there =
      subst IsName (get_or-map (λ (lane : Lane). lane.name) t.lanes j (record { name = []; from = 0; to = 0; pairs = [] }) [] there)
      (kept.lanes_named.each j [] (omega (arith, length-map t.lanes (λ (lane : Lane). lane.name))))

  pub place_free : (i : ℕ) → i < length t.places → node_fault (nodes_to t i) (place_at t i).name ≡ None
  place_free i there =
      let none_d : Place = record { name = []; kind = shop 0 } in
      let name_is = get_or-map (λ (place : Place). place.name) t.places i none_d [] there in
      let names_are : node_names (nodes_to t i) ≡ take i (place_names t) = node-names (take i t.places) ∙ sym (take-map (λ (place : Place). place.name) i t.places) in
      let new = new_name (place_names t) i kept.places_named (omega (arith, length-map t.places (λ (place : Place). place.name))) in
      let free : place_of (node_names (nodes_to t i)) (place_at t i).name ≡ None = ap (λ names. place_of names (place_at t i).name) names_are ∙ ap (place_of (take i (place_names t))) (sym name_is) ∙ new in
      let room : nat_le nodes_most (length (nodes_to t i).nodes) ≡ false =
      (let count = length-map (take i t.places) place_node in let short = length-take-le i t.places in let most = kept.few_places in grind (arith, nat_tests)) in
      rw (free, room) refl

  pub lane_free : (j : ℕ) → j < length t.lanes → arc_fault (arcs_to t j) (lane_at t j).name (lane_at t j).from (lane_at t j).to ≡ None
  lane_free j there =
      let none_d : Lane = record { name = []; from = 0; to = 0; pairs = [] } in
      let name_is = get_or-map (λ (lane : Lane). lane.name) t.lanes j none_d [] there in
      let names_are : arc_names (arcs_to t j) ≡ take j (lane_names t) = arc-names (take j t.lanes) ∙ sym (take-map (λ (lane : Lane). lane.name) j t.lanes) in
      let new = new_name (lane_names t) j kept.lanes_named (omega (arith, length-map t.lanes (λ (lane : Lane). lane.name))) in
      let free : place_of (arc_names (arcs_to t j)) (lane_at t j).name ≡ None = ap (λ names. place_of names (lane_at t j).name) names_are ∙ ap (place_of (take j (lane_names t))) (sym name_is) ∙ new in
      let ends_differ : ((lane_at t j).from == (lane_at t j).to) ≡ false = ne_eqb (lane_at t j).from (lane_at t j).to (apart t kept j there) in
      let room : nat_le arcs_most (length (arcs_to t j).arcs) ≡ false =
      (let count = length-map (take j t.lanes) lane_arc in let short = length-take-le j t.lanes in let most = kept.few_lanes in grind (arith, nat_tests)) in
      rw (free, ends_differ, room) refl

pub nodes_more : (t : Table) (i : ℕ) → i < length t.places → with_node (nodes_to t i) (place_at t i).name (listed (supply_items (place_at t i).kind)) ≡ nodes_to t (i + 1)
nodes_more t i there =
    let none_d : Place = record { name = []; kind = shop 0 } in
    ap (λ (nodes : List NodeEntry). record { nodes = nodes; arcs = [] })
    (sym (ap (map place_node) (take_at_read t.places i none_d there).1 ∙ map_push place_node (take i t.places) (place_at t i)))

pub arcs_more : (t : Table) (j : ℕ) → j < length t.lanes
    → with_arc (arcs_to t j) (lane_at t j).name (lane_at t j).from (lane_at t j).to (listed (priced (lane_at t j).pairs)) ≡ arcs_to t (j + 1)
arcs_more t j there =
    let none_d : Lane = record { name = []; from = 0; to = 0; pairs = [] } in
    ap (λ (arcs : List ArcEntry). record { nodes = map place_node t.places; arcs = arcs })
    (sym (ap (map lane_arc) (take_at_read t.lanes j none_d there).1 ∙ map_push lane_arc (take j t.lanes) (lane_at t j)))

-- ---- what a model asks of a curve

pub kind_short : (kind : Kind) → IsKind kind → length (supply_items kind) ≤ list_most
kind_short (plant pairs) is = omega (arith, length-priced pairs, (is.pairs refl).few)
kind_short (shop demand) is = omega arith

pub kind_point : (demand : ℕ) → IsKind (shop demand) → IsWithin number_most (neg_ℤ (pos demand))
kind_point demand is = let most = is.demand in (omega (arith, ints), omega (arith, ints))
