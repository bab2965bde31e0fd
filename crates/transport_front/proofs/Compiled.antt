-- The grounded network of a compiled table, by the numbers of its arcs: first one for each place, from the ground, then one for
-- each lane. It is the network of a model.
use Rattle.std.proofs.Common.{◌≡◌, ◌≢◌, ℕ, ◌+◌, ◌<◌, ℤ, ◌+ℤ◌, true, false, length, map, slice_index_or, refl, sym, ap, subst, ◌∙◌, arith}
use Rattle.std.specs.Prelude.{[], pos}
use Rattle.std.proofs.lemmas.List.{length-map, get_or-map}
use Rattle.theory.specs.declared.ext.Ext.TheVariants.{At}
use Rattle.theory.specs.CurveList.{Listing, IsCurveList}
use Rattle.theory.specs.Network.{Network, IsNetwork, tail, head, curve, over_arcs}
use Rattle.theory.specs.Grounded.{Entries, NodeEntry, ArcEntry, IsModel, grounded}
use Rattle.theory.specs.Sums.{sum_below}
use Rattle.theory.proofs.GroundedLaw.{length-grounded_arcs, tail-ground, head-ground, tail-model, head-model, curve-ground, curve-model, by_number, grounded_is_network}
use Rattle.transport_front.specs.Table.{Kind, Place, Lane, Table, is_plant, is_shop, kind_at, place_at, lane_at, IsTable, listed, priced, supply_items, place_node, lane_arc, compiled}
use Rattle.transport_front.specs.Table.Kind.{plant, shop}
use Rattle.transport_front.proofs.Prices.{priced_list, kind_list}
use Rattle.transport_front.proofs.Lists.{sum_below-parts}

abbrev pub network : Table → Network
network t = grounded (compiled t)

pub plant_no_shop : (kind : Kind) → is_plant kind ≡ true → is_shop kind ≡ true → ⊥
plant_no_shop (plant pairs) one other = cc
plant_no_shop (shop demand) one other = cc

module _ (t : Table) where
  nodes-are : length (compiled t).nodes ≡ length t.places
  nodes-are = length-map t.places place_node

  arcs-are : length (compiled t).arcs ≡ length t.lanes
  arcs-are = length-map t.lanes lane_arc

  pub node-is : (i : ℕ) (d : NodeEntry) → i < length t.places → slice_index_or (compiled t).nodes i d ≡ place_node (place_at t i)
  node-is i d there = get_or-map place_node t.places i (record { name = []; kind = shop 0 }) d there

  pub arc-is : (j : ℕ) (d : ArcEntry) → j < length t.lanes → slice_index_or (compiled t).arcs j d ≡ lane_arc (lane_at t j)
  arc-is j d there = get_or-map lane_arc t.lanes j (record { name = []; from = 0; to = 0; pairs = [] }) d there

  pub arc_count : length (network t).arcs ≡ length t.places + length t.lanes
  arc_count = length-grounded_arcs (compiled t) ∙ omega (arith, nodes-are, arcs-are)

  pub node_count : (network t).nodes ≡ length t.places + 1
  node_count = ap (λ n. n + 1) nodes-are

  pub place_tail : (i : ℕ) → i < length t.places → tail (network t) i ≡ 0
  place_tail i there = tail-ground (compiled t) i (omega (arith, nodes-are))

  pub place_head : (i : ℕ) → i < length t.places → head (network t) i ≡ i + 1
  place_head i there = head-ground (compiled t) i (omega (arith, nodes-are))

  pub place_curve : (i : ℕ) → i < length t.places → curve (network t) i ≡ listed (supply_items (kind_at t i))
  place_curve i there =
      curve-ground (compiled t) i (record { name = []; supply = record { items = []; base = pos 0 } }) (omega (arith, nodes-are))
      ∙ ap (λ (node : NodeEntry). node.supply) (node-is i _ there)

  pub lane_tail : (k : ℕ) → k < length t.lanes → tail (network t) (length t.places + k) ≡ (lane_at t k).from + 1
  lane_tail k there =
      ap (λ n. tail (network t) (n + k)) (sym nodes-are)
      ∙ tail-model (compiled t) k (record { name = []; from = 0; to = 0; curve = record { items = []; base = pos 0 } }) (omega (arith, arcs-are))
      ∙ ap (λ (arc : ArcEntry). arc.from + 1) (arc-is k _ there)

  pub lane_head : (k : ℕ) → k < length t.lanes → head (network t) (length t.places + k) ≡ (lane_at t k).to + 1
  lane_head k there =
      ap (λ n. head (network t) (n + k)) (sym nodes-are)
      ∙ head-model (compiled t) k (record { name = []; from = 0; to = 0; curve = record { items = []; base = pos 0 } }) (omega (arith, arcs-are))
      ∙ ap (λ (arc : ArcEntry). arc.to + 1) (arc-is k _ there)

  pub lane_curve : (k : ℕ) → k < length t.lanes → curve (network t) (length t.places + k) ≡ listed (priced (lane_at t k).pairs)
  lane_curve k there =
      ap (λ n. curve (network t) (n + k)) (sym nodes-are)
      ∙ curve-model (compiled t) k (record { name = []; from = 0; to = 0; curve = record { items = []; base = pos 0 } }) (omega (arith, arcs-are))
      ∙ ap (λ (arc : ArcEntry). arc.curve) (arc-is k _ there)

  -- a sum over all arcs, and what holds of all of them
  pub arcs_parts : (f : ℕ → ℤ) → over_arcs (network t) f ≡ sum_below (length t.places) f +ℤ sum_below (length t.lanes) (λ k. f (length t.places + k))
  arcs_parts f = ap (λ n. sum_below n f) arc_count ∙ sum_below-parts (length t.places) (length t.lanes) f

  pub by_arc : (P : ℕ → Type 0) → ((i : ℕ) → i < length t.places → P i) → ((k : ℕ) → k < length t.lanes → P (length t.places + k))
      → (j : ℕ) → j < length (network t).arcs → P j
  by_arc P front back j there = by_number (length t.places) (length t.lanes) P front back j (omega (arith, arc_count))

  -- ---- a model

  module _ (kept : IsTable t) where
    pub apart : (k : ℕ) → k < length t.lanes → (lane_at t k).from ≢ (lane_at t k).to
    apart k there same =
        plant_no_shop (kind_at t (lane_at t k).to) (subst (λ i. is_plant (kind_at t i) ≡ true) same (kept.joined k (record { name = []; from = 0; to = 0; pairs = [] }) there).from_plant) (kept.joined k (record { name = []; from = 0; to = 0; pairs = [] }) there).to_shop

    pub is_model : IsModel (compiled t)
    is_model = record {
      supplies = λ i d there. (
          let here : i < length t.places = omega (arith, nodes-are) in
          subst (λ (node : NodeEntry). IsCurveList node.supply.items) (sym (node-is i d here)) (kind_list (kind_at t i) (kept.kinds i (record { name = []; kind = shop 0 }) here)));
      curves = λ j d there. (
          let here : j < length t.lanes = omega (arith, arcs-are) in
          subst (λ (arc : ArcEntry). IsCurveList arc.curve.items) (sym (arc-is j d here)) (priced_list (lane_at t j).pairs (kept.joined j (record { name = []; from = 0; to = 0; pairs = [] }) here).pairs));
      tails = λ j d there. (
          let here : j < length t.lanes = omega (arith, arcs-are) in
          let is = ap (λ (arc : ArcEntry). arc.from) (arc-is j d here) in
          omega (arith, nodes-are, (kept.joined j (record { name = []; from = 0; to = 0; pairs = [] }) here).tail));
      heads = λ j d there. (
          let here : j < length t.lanes = omega (arith, arcs-are) in
          let is = ap (λ (arc : ArcEntry). arc.to) (arc-is j d here) in
          omega (arith, nodes-are, (kept.joined j (record { name = []; from = 0; to = 0; pairs = [] }) here).head));
      no_loops = λ j d there. (
          let here : j < length t.lanes = omega (arith, arcs-are) in
          subst (λ (arc : ArcEntry). arc.from ≢ arc.to) (sym (arc-is j d here)) (apart j here));
    }

    pub is_network : IsNetwork (network t)
    is_network = grounded_is_network (compiled t) is_model
