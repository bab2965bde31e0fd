-- From one level to the next finer one. With q the power of two of the finer level an end a is floor (a / q) there and
-- floor (a / 2q) before: if this was at most x, then a < 2q (x + 1), so floor (a / q) is at most 2 x + 1. So a flow within
-- its domain, doubled, is at most 1 below its new lower end and, by opposites, at most 1 above its new upper end; never both, since
-- the ends are in order. At the top all points are below the power of two, and 0 is within every domain.
use Rattle.std.proofs.Common.{◌≡◌, ℕ, ◌+◌, ◌*◌, ◌^◌, ◌≤◌, ℤ, pos, ◌+ℤ◌, ◌-ℤ◌, ◌*ℤ◌, neg_ℤ, ◌≤ℤ◌, List, refl, arith, add-one, pow_pos}
use Rattle.std.specs.Int.{int_div_euclid}
use Rattle.std.proofs.lemmas.Int.{ints, clamps}
use Rattle.theory.specs.declared.ext.Ext.{Ext}
use Rattle.theory.specs.declared.ext.Ext.TheVariants.{MinusInf, At, PlusInf}
use Rattle.theory.specs.Ends.{whole}
use Rattle.theory.specs.CurveList.{IsCurveList, first, last}
use Rattle.theory.specs.Limits.{IsWithin, AreWithin, number_most, level_most}
use Rattle.theory.specs.Views.{rounded_down, rounded_up, level_items}
use Rattle.theory.proofs.Level.{level-is_list, level-zero}
use Rattle.theory.proofs.Rings.{rings, scale_mono, scale_cancel_strict}
use Rattle.theory.proofs.Rounding.{quotient_low, quotient_high}
use Rattle.curve_views.proofs.LevelEnds.{first-level, last-level}
use Rattle.feasible_flow.specs.Violations.{missing, surplus, violation}
use Rattle.feasible_flow.proofs.DomainEnds.{AreEnds, both, from_a_point, to_a_point, everywhere, list-ends, first-within, last-within}
use Rattle.feasible_flow.proofs.OneArc.{positive_part-is}

-- ---- one end

quotient-twice : (k : ℕ) (a x : ℤ) → int_div_euclid a (pos (2 ^ (k + 1))) ≤ℤ x → int_div_euclid a (pos (2 ^ k)) ≤ℤ (pos 2 *ℤ x +ℤ pos 1)
quotient-twice k a x under =
    let power : 2 ^ (k + 1) ≡ 2 * 2 ^ k = rw (add-one k) (omega arith) in
    let high = quotient_high (2 ^ (k + 1)) a (pow_pos (k + 1)) in
    let low = quotient_low (2 ^ k) a (pow_pos k) in
    let more = scale_mono (2 ^ (k + 1)) (int_div_euclid a (pos (2 ^ (k + 1))) +ℤ pos 1) (x +ℤ pos 1) (omega (arith, ints)) in
    let halves : pos (2 ^ (k + 1)) *ℤ (x +ℤ pos 1) ≡ pos (2 ^ k) *ℤ (pos 2 *ℤ (x +ℤ pos 1)) = rw power (omega (arith, rings)) in
    let less = scale_cancel_strict (2 ^ k) (int_div_euclid a (pos (2 ^ k))) (pos 2 *ℤ (x +ℤ pos 1)) (omega (arith, ints)) in
    omega (arith, ints)

missing-twice : (k : ℕ) (e : Ext) (x : ℤ) → missing (rounded_down (k + 1) e) x ≡ 0 → missing (rounded_down k e) (pos 2 *ℤ x) ≤ 1
missing-twice k MinusInf x none = omega arith
missing-twice k (At a) x none =
    let p = positive_part-is (int_div_euclid a (pos (2 ^ (k + 1))) -ℤ x) in
    let twice = quotient-twice k a x (omega (arith, ints, clamps)) in
    let q = positive_part-is (int_div_euclid a (pos (2 ^ k)) -ℤ pos 2 *ℤ x) in
    omega (arith, ints, clamps)
missing-twice k PlusInf x none = omega arith

surplus-twice : (k : ℕ) (e : Ext) (x : ℤ) → surplus (rounded_up (k + 1) e) x ≡ 0 → surplus (rounded_up k e) (pos 2 *ℤ x) ≤ 1
surplus-twice k MinusInf x none = omega arith
surplus-twice k (At b) x none =
    let p = positive_part-is (x -ℤ neg_ℤ (int_div_euclid (neg_ℤ b) (pos (2 ^ (k + 1))))) in
    let twice = quotient-twice k (neg_ℤ b) (neg_ℤ x) (omega (arith, ints, clamps)) in
    let q = positive_part-is (pos 2 *ℤ x -ℤ neg_ℤ (int_div_euclid (neg_ℤ b) (pos (2 ^ k)))) in
    omega (arith, ints, clamps)
surplus-twice k PlusInf x none = omega arith

missing-top : (e : Ext) → IsWithin number_most (whole e) → missing (rounded_down level_most e) (pos 0) ≡ 0
missing-top MinusInf within = refl
missing-top (At a) within =
    let low = quotient_low (2 ^ level_most) a (pow_pos level_most) in
    let high = within.1 in
    let p = positive_part-is (int_div_euclid a (pos (2 ^ level_most)) -ℤ pos 0) in
    omega (arith, ints, clamps)
missing-top PlusInf within = refl

surplus-top : (e : Ext) → IsWithin number_most (whole e) → surplus (rounded_up level_most e) (pos 0) ≡ 0
surplus-top MinusInf within = refl
surplus-top (At b) within =
    let low = quotient_low (2 ^ level_most) (neg_ℤ b) (pow_pos level_most) in
    let least = within.0 in
    let p = positive_part-is (pos 0 -ℤ neg_ℤ (int_div_euclid (neg_ℤ b) (pos (2 ^ level_most)))) in
    omega (arith, ints, clamps)
surplus-top PlusInf within = refl

-- ---- a domain

one-side : {low high : Ext} → AreEnds low high → (x : ℤ) → missing low x ≤ 1 → surplus high x ≤ 1 → missing low x + surplus high x ≤ 1
one-side (both {a = a} {b = b} order) x below above =
    let p = positive_part-is (a -ℤ x) in let q = positive_part-is (x -ℤ b) in omega (arith, ints, clamps)
one-side from_a_point x below above = omega arith
one-side to_a_point x below above = omega arith
one-side everywhere x below above = omega arith

pub violation-twice : (k : ℕ) (items : List Ext) (x : ℤ) → IsCurveList items → violation (level_items (k + 1) items) x ≡ 0
    → violation (level_items k items) (pos 2 *ℤ x) ≤ 1
violation-twice k items x list none =
    let low : missing (rounded_down (k + 1) (first items)) x ≡ 0 = rw (← first-level (k + 1) items list) (omega arith) in
    let high : surplus (rounded_up (k + 1) (last items)) x ≡ 0 = rw (← last-level (k + 1) items list) (omega arith) in
    one-side (list-ends (level_items k items) (level-is_list k items list)) (pos 2 *ℤ x)
    (rw (first-level k items list) (missing-twice k (first items) x low)) (rw (last-level k items list) (surplus-twice k (last items) x high))

pub violation-top : (items : List Ext) → IsCurveList items → AreWithin number_most items → violation (level_items level_most items) (pos 0) ≡ 0
violation-top items list within =
    let low = missing-top (first items) (first-within items within) in
    let high = surplus-top (last items) (last-within items list within) in
    rw (first-level level_most items list, last-level level_most items list) (omega arith)

pub violation-last : (k : ℕ) (items : List Ext) (x : ℤ) → k ≡ 0 → IsCurveList items → violation (level_items k items) x ≡ 0 → violation items x ≡ 0
violation-last k items x last list none =
    let same : level_items k items ≡ items = rw last (level-zero items list) in
    rw same at none
