-- The sum of a negative cut of the compiled network is the shortage of the places outside it, with its sign changed. The side holds the
-- ground: without the ground no arc adds a number below 0, since a place's arc enters the side or is apart from it, and an arc
-- that enters adds the demand of a shop or nothing. With the ground, arc by arc, what is added is what the shortage counts. And there is no
-- circuit over which the sum counts, since every domain has two ends, so no span has one.
use Rattle.std.proofs.Common.{◌≡◌, ℕ, zero, suc, ◌+◌, ◌<◌, ℤ, pos, ◌+ℤ◌, ◌-ℤ◌, neg_ℤ, ◌≤ℤ◌, ◌<ℤ◌, Bool, true, false, not, ◌&&◌, if◌then◌else◌, List, [], ◌∷◌, length, refl, sym, ap, subst, ◌∙◌, arith}
use Rattle.std.proofs.lemmas.Int.{ints}
use Rattle.theory.specs.declared.ext.Ext.{Ext}
use Rattle.theory.specs.declared.ext.Ext.TheVariants.{MinusInf, At, PlusInf}
use Rattle.theory.specs.declared.network.Step.{Step}
use Rattle.theory.specs.Ends.{whole, negated, is_finite, IsFinite}
use Rattle.theory.specs.CurveList.{Listing, first, last}
use Rattle.theory.specs.Network.{«at», tail, head, curve}
use Rattle.theory.specs.Sums.{sum_below, counted}
use Rattle.theory.specs.Cut.{holds, cut_end, cut_sum, IsNegativeCut}
use Rattle.theory.specs.Circuit.{passing_end, WalkIsThere, IsNegativeCircuit, SpanCounts}
use Rattle.theory.proofs.SumsBelow.{sum_below-same}
use Rattle.transport_front.specs.declared.pair.Pair.{Pair}
use Rattle.transport_front.specs.Table.{Kind, Table, size_of, kind_at, lane_at, priced, listed, supply_items}
use Rattle.transport_front.specs.Table.Kind.{plant, shop}
use Rattle.transport_front.specs.Plan.{wanted, shortage, outside}
use Rattle.transport_front.proofs.Prices.{last_priced}
use Rattle.transport_front.proofs.Lists.{sum_not_below}
use Rattle.transport_front.proofs.Compiled.{network, place_tail, place_head, place_curve, lane_tail, lane_head, lane_curve, arcs_parts, by_arc}

-- what an arc adds, by whether the side holds its two ends
abbrev added : Bool → Bool → List Ext → ℤ
added a b items = whole (if a && not b then last items else (if not a && b then negated (first items) else (At (pos 0))))

lane_added : (a b : Bool) (pairs : List Pair) → added a b (priced pairs) ≡ counted (not (not a) && not b) (pos (size_of pairs))
lane_added true true pairs = refl
lane_added true false pairs = ap whole (last_priced pairs)
lane_added false true pairs = refl
lane_added false false pairs = refl

place_added : (b : Bool) (kind : Kind) → added true b (supply_items kind) +ℤ counted (not b) (wanted kind) ≡ pos 0
place_added true kind = refl
place_added false (plant pairs) = let e = ap whole (last_priced pairs) in omega (arith, ints)
place_added false (shop demand) = omega (arith, ints)

place_added_apart : (b : Bool) (kind : Kind) → pos 0 ≤ℤ added false b (supply_items kind)
place_added_apart true (plant pairs) = omega (arith, ints)
place_added_apart true (shop demand) = omega (arith, ints)
place_added_apart false kind = omega (arith, ints)

lane_added_some : (a b : Bool) (pairs : List Pair) → pos 0 ≤ℤ added a b (priced pairs)
lane_added_some a b pairs = subst (λ z. pos 0 ≤ℤ z) (sym (lane_added a b pairs)) (some (not (not a) && not b))
  where
    some : (c : Bool) → pos 0 ≤ℤ counted c (pos (size_of pairs))
    some true = omega (arith, ints)
    some false = omega (arith, ints)

module _ (t : Table) (side : List Bool) where
  place_end : (i : ℕ) → i < length t.places → whole (cut_end (network t) side i) ≡ added (holds side 0) (holds side (i + 1)) (supply_items (kind_at t i))
  place_end i there =
      ap (λ n. added (holds side n) (holds side (head (network t) i)) (curve (network t) i).items) (place_tail t i there)
      ∙ ap (λ n. added (holds side 0) (holds side n) (curve (network t) i).items) (place_head t i there)
      ∙ ap (λ (c : Listing). added (holds side 0) (holds side (i + 1)) c.items) (place_curve t i there)

  lane_end : (k : ℕ) → k < length t.lanes
      → whole (cut_end (network t) side (length t.places + k)) ≡ added (holds side ((lane_at t k).from + 1)) (holds side ((lane_at t k).to + 1)) (priced (lane_at t k).pairs)
  lane_end k there =
      ap (λ n. added (holds side n) (holds side (head (network t) (length t.places + k))) (curve (network t) (length t.places + k)).items) (lane_tail t k there)
      ∙ ap (λ n. added (holds side ((lane_at t k).from + 1)) (holds side n) (curve (network t) (length t.places + k)).items) (lane_head t k there)
      ∙ ap (λ (c : Listing). added (holds side ((lane_at t k).from + 1)) (holds side ((lane_at t k).to + 1)) c.items) (lane_curve t k there)

  with_ground : holds side 0 ≡ true → shortage t (outside side) ≡ neg_ℤ (cut_sum (network t) side)
  with_ground holds_it =
      let parts = arcs_parts t (λ j. whole (cut_end (network t) side j)) in
      let front = sum_below-same (length t.places) (λ j. whole (cut_end (network t) side j)) (λ i. neg_ℤ (counted (outside side i) (wanted (kind_at t i))))
      (λ i there. (
      let e = place_end i there ∙ ap (λ a. added a (holds side (i + 1)) (supply_items (kind_at t i))) holds_it in
      let f = place_added (holds side (i + 1)) (kind_at t i) in
      omega (arith, ints))) in
      let turned = negated_sum (length t.places) (λ i. counted (outside side i) (wanted (kind_at t i))) in
      let back = sum_below-same (length t.lanes)
      (λ k. whole (cut_end (network t) side (length t.places + k)))
      (λ k. counted (not (outside side (lane_at t k).from) && outside side (lane_at t k).to) (pos (size_of (lane_at t k).pairs)))
      (λ k there. lane_end k there ∙ lane_added (holds side ((lane_at t k).from + 1)) (holds side ((lane_at t k).to + 1)) (lane_at t k).pairs) in
      omega (arith, ints)
    where
      negated_sum : (n : ℕ) (f : ℕ → ℤ) → sum_below n (λ k. neg_ℤ (f k)) ≡ neg_ℤ (sum_below n f)
      negated_sum zero f = refl
      negated_sum (suc n) f = let e = negated_sum n f in omega (arith, ints)

  without_ground : holds side 0 ≡ false → pos 0 ≤ℤ cut_sum (network t) side
  without_ground holds_not =
      let parts = arcs_parts t (λ j. whole (cut_end (network t) side j)) in
      let front = sum_not_below (length t.places) (λ j. whole (cut_end (network t) side j))
      (λ i there. subst (λ z. pos 0 ≤ℤ z) (sym (place_end i there ∙ ap (λ a. added a (holds side (i + 1)) (supply_items (kind_at t i))) holds_not))
      (place_added_apart (holds side (i + 1)) (kind_at t i))) in
      let back = sum_not_below (length t.lanes) (λ k. whole (cut_end (network t) side (length t.places + k)))
      (λ k there. subst (λ z. pos 0 ≤ℤ z) (sym (lane_end k there)) (lane_added_some (holds side ((lane_at t k).from + 1)) (holds side ((lane_at t k).to + 1)) (lane_at t k).pairs)) in
      omega (arith, ints)

  pub cut_is_shortage : cut_sum (network t) side <ℤ pos 0 → shortage t (outside side) ≡ neg_ℤ (cut_sum (network t) side)
  cut_is_shortage below = by (holds side 0) refl
    where
      by : (b : Bool) → holds side 0 ≡ b → shortage t (outside side) ≡ neg_ℤ (cut_sum (network t) side)
      by true is = with_ground is
      by false is = let some = without_ground is in absurd (omega (arith, ints))

-- ---- circuits

record HasEnds (items : List Ext) : Type 0 where
  low : is_finite (first items) ≡ true
  high : is_finite (last items) ≡ true

priced_ends : (pairs : List Pair) → HasEnds (priced pairs)
priced_ends pairs = record { low = refl; high = ap is_finite (last_priced pairs) }

kind_ends : (kind : Kind) → HasEnds (supply_items kind)
kind_ends (plant pairs) = priced_ends pairs
kind_ends (shop demand) = record { low = refl; high = refl }

no_end : (items : List Ext) (forward : Bool) → HasEnds items → IsFinite (passing_end items forward) → ⊥
no_end items true has finite = let none : is_finite (passing_end items true) ≡ false = rw has.high refl in cc
no_end items false has finite = let none : is_finite (passing_end items false) ≡ false = rw has.low refl in cc

pub no_circuit : (t : Table) (walk : List Step) → WalkIsThere (network t) walk → IsNegativeCircuit (network t) walk → ⊥
no_circuit t [] there circuit = omega (arith, circuit.circuit.not_empty)
no_circuit t (s ∷ walk) there circuit =
    no_end (curve (network t) s.arc.0).items s.forward
    (by_arc t (λ j. HasEnds (curve (network t) j).items)
    (λ i here. subst (λ (c : Listing). HasEnds c.items) (sym (place_curve t i here)) (kind_ends (kind_at t i)))
    (λ k here. subst (λ (c : Listing). HasEnds c.items) (sym (lane_curve t k here)) (priced_ends (lane_at t k).pairs))
    s.arc.0 (there 0 (omega arith)))
    circuit.counts.0
