-- The lists of trial models are curve lists within the limits.
use Rattle.std.proofs.Common.{◌≡◌, ℕ, zero, suc, ◌+◌, ◌<◌, ◌≤◌, ℤ, pos, ◌+ℤ◌, ◌-ℤ◌, neg_ℤ, ◌<ℤ◌, List, [], ◌∷◌, length, refl, ap, ◌∙◌, arith}
use Rattle.std.proofs.lemmas.Int.{ints}
use Rattle.theory.specs.declared.ext.Ext.{Ext}
use Rattle.theory.specs.declared.ext.Ext.TheVariants.{MinusInf, At, PlusInf}
use Rattle.theory.specs.Ends.{whole}
use Rattle.theory.specs.Limits.{AreWithin, IsWithin, number_most, base_most}
use Rattle.theory.specs.Sums.{Each}
use Rattle.theory.proofs.Bounds.{nothing_within}
use Rattle.theory.proofs.Shape.{Shape, less_in, place_of_shape}
use Rattle.theory.proofs.Shape.Rest.{ends, goes_on}
use Rattle.theory.proofs.Shape.Shape.{single, long}
use Rattle.mono_curve.specs.CurveValue.{IsValidCurve}
use Rattle.trial_model.specs.Generator.{drawn}
use Rattle.trial_model.specs.Trial.{listed, ring_items, chord_list, chord_items}
use Rattle.trial_model.proofs.StateLemmas.{drawn-below}

each_within : (n : ℕ) (items : List Ext) → Each (λ e. IsWithin n (whole e)) items → AreWithin n items
each_within n [] each k there = absurd (omega arith)
each_within n (e ∷ items) each zero there = each.0
each_within n (e ∷ items) each (suc k) there = each_within n items each.1 k (omega arith)

valid : (items : List Ext) → Shape items → Each (λ e. IsWithin number_most (whole e)) items → length items ≤ 5 → IsValidCurve (listed items)
valid items shape each short = record {
  is_list = place_of_shape shape;
  short = omega arith;
  items_within = each_within number_most items each;
  base_within = nothing_within base_most;
}

pub single_valid : (z : ℤ) → IsWithin number_most z → IsValidCurve (listed (At z ∷ []))
single_valid z within = valid (At z ∷ []) single (within, tt) (omega arith)

pub ring_valid : (slope : ℕ) → 0 < slope → slope ≤ 1000 → IsValidCurve (listed (ring_items slope))
ring_valid slope some small =
    let rises : neg_ℤ (pos slope) <ℤ pos slope = omega (arith, ints) in
    let low : IsWithin number_most (neg_ℤ (pos slope)) = (omega (arith, ints), omega (arith, ints)) in
    let high : IsWithin number_most (pos slope) = (omega (arith, ints), omega (arith, ints)) in
    valid (ring_items slope) (long refl (goes_on rises refl ends))
    (nothing_within number_most, (low, (nothing_within number_most, (high, (nothing_within number_most, tt))))) (omega arith)

-- two slopes, each over a flow of its own
pub chord_valid : (slope first steeper further : ℤ) → IsWithin 1000 slope → IsWithin 1000 first → IsWithin 1000 steeper → IsWithin 1000 further
    → pos 0 <ℤ first → pos 0 <ℤ steeper → pos 0 <ℤ further
    → IsValidCurve (listed (At (pos 0) ∷ At slope ∷ At first ∷ At (slope +ℤ steeper) ∷ At (first +ℤ further) ∷ []))
chord_valid slope first steeper further at_slope at_first at_steeper at_further some more yet_more =
    let rises : slope <ℤ (slope +ℤ steeper) = omega (arith, ints) in
    let ends_on : first <ℤ (first +ℤ further) = omega (arith, ints) in
    let one : IsWithin number_most slope = (omega (arith, ints), omega (arith, ints)) in
    let two : IsWithin number_most first = (omega (arith, ints), omega (arith, ints)) in
    let three : IsWithin number_most (slope +ℤ steeper) = (omega (arith, ints), omega (arith, ints)) in
    let four : IsWithin number_most (first +ℤ further) = (omega (arith, ints), omega (arith, ints)) in
    valid (At (pos 0) ∷ At slope ∷ At first ∷ At (slope +ℤ steeper) ∷ At (first +ℤ further) ∷ [])
    (long (less_in (pos 0) first some) (goes_on rises (less_in first (first +ℤ further) ends_on) ends))
    (nothing_within number_most, (one, (two, (three, (four, tt))))) (omega arith)

pub chord_items_valid : (state : ℕ) → IsValidCurve (listed (chord_items state))
chord_items_valid state =
    let a : drawn state 3 1000 < 1000 = drawn-below state 3 1000 (omega arith) in
    let b : drawn state 4 50 < 50 = drawn-below state 4 50 (omega arith) in
    let c : drawn state 5 100 < 100 = drawn-below state 5 100 (omega arith) in
    let d : drawn state 6 50 < 50 = drawn-below state 6 50 (omega arith) in
    chord_valid (pos (drawn state 3 1000) -ℤ pos 500) (pos (1 + drawn state 4 50)) (pos (1 + drawn state 5 100)) (pos (1 + drawn state 6 50))
    (omega (arith, ints), omega (arith, ints)) (omega (arith, ints), omega (arith, ints)) (omega (arith, ints), omega (arith, ints)) (omega (arith, ints), omega (arith, ints))
    (omega (arith, ints)) (omega (arith, ints)) (omega (arith, ints))

-- ---- the lists as the code makes them

pub ring_list_is : (low high : ℤ) (slope : ℕ) → low ≡ neg_ℤ (pos slope) → high ≡ pos slope → MinusInf ∷ At low ∷ At (pos 0) ∷ At high ∷ PlusInf ∷ [] ≡ ring_items slope
ring_list_is low high slope at_low at_high =
    ap (λ z. MinusInf ∷ At z ∷ At (pos 0) ∷ At high ∷ PlusInf ∷ []) at_low
    ∙ ap (λ z. MinusInf ∷ At (neg_ℤ (pos slope)) ∷ At (pos 0) ∷ At z ∷ PlusInf ∷ []) at_high

pub chord_list_is : (a b c d : ℤ) (slope first steeper further : ℕ) → a ≡ pos slope -ℤ pos 500 → b ≡ pos (1 + first)
    → c ≡ (pos slope -ℤ pos 500) +ℤ pos (1 + steeper) → d ≡ pos (1 + first) +ℤ pos (1 + further)
    → At (pos 0) ∷ At a ∷ At b ∷ At c ∷ At d ∷ [] ≡ chord_list slope first steeper further
chord_list_is a b c d slope first steeper further at_a at_b at_c at_d =
    ap (λ z. At (pos 0) ∷ At z ∷ At b ∷ At c ∷ At d ∷ []) at_a
    ∙ ap (λ z. At (pos 0) ∷ At (pos slope -ℤ pos 500) ∷ At z ∷ At c ∷ At d ∷ []) at_b
    ∙ ap (λ z. At (pos 0) ∷ At (pos slope -ℤ pos 500) ∷ At (pos (1 + first)) ∷ At z ∷ At d ∷ []) at_c
    ∙ ap (λ z. At (pos 0) ∷ At (pos slope -ℤ pos 500) ∷ At (pos (1 + first)) ∷ At ((pos slope -ℤ pos 500) +ℤ pos (1 + steeper)) ∷ At z ∷ []) at_d

pub same_chord_list : (a b c d slope first steeper further : ℕ) → a ≡ slope → b ≡ first → c ≡ steeper → d ≡ further → chord_list a b c d ≡ chord_list slope first steeper further
same_chord_list a b c d slope first steeper further at_a at_b at_c at_d =
    ap (λ n. chord_list n b c d) at_a ∙ ap (λ n. chord_list slope n c d) at_b ∙ ap (λ n. chord_list slope first n d) at_c ∙ ap (λ n. chord_list slope first steeper n) at_d
