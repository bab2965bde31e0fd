-- What every level keeps, as the trait asks it. Rounding moves no number away from 0 past the limit: a quotient is no further
-- from 0 than its number, and what is rounded up is the opposite of the opposite rounded down.
use Rattle.std.specs.Prelude.{◌≡◌, ℕ, zero, suc, ◌+◌, ◌*◌, ◌/◌, ◌^◌, ◌≤◌, ℤ, pos, negsuc, Bool, true, false, List, [], ◌∷◌, length}
use Rattle.std.specs.Int.{int_div_euclid}
use Rattle.std.proofs.Common.{refl, arith}
use Rattle.std.proofs.lemmas.Int.{ints}
use Rattle.std.proofs.Math.Nat.{div-le_self}
use Rattle.theory.specs.declared.ext.Ext.{Ext}
use Rattle.theory.specs.declared.ext.Ext.TheVariants.{MinusInf, At, PlusInf}
use Rattle.theory.specs.Ends.{whole, negated}
use Rattle.theory.specs.CurveList.{IsCurveList, item, first}
use Rattle.theory.specs.Views.{rounded_down, rounded_up, rounded_points, is_same_end, without_flat, level_items}
use Rattle.theory.specs.Limits.{AreWithin, IsWithin, number_most}
use Rattle.theory.proofs.Bounds.{nothing_within, negated-within, item_within, length-short}
use Rattle.theory.proofs.Level.{level-is_list}

-- ---- one point

quotient_within : (n m : ℕ) (a : ℤ) → IsWithin n a → IsWithin n (int_div_euclid a (pos m))
quotient_within n m (pos a) small =
    let high = small.1 in
    let less : a / m ≤ a = div-le_self a m in
    (omega (arith, ints), omega (arith, ints))
quotient_within n m (negsuc a) small =
    let low = small.0 in
    let less : a / m ≤ a = div-le_self a m in
    (omega (arith, ints), omega (arith, ints))

pub down_within : (n k : ℕ) (e : Ext) → IsWithin n (whole e) → IsWithin n (whole (rounded_down k e))
down_within n k MinusInf small = small
down_within n k (At a) small = quotient_within n (2 ^ k) a small
down_within n k PlusInf small = small

pub up_within : (n k : ℕ) (e : Ext) → IsWithin n (whole e) → IsWithin n (whole (rounded_up k e))
up_within n k e small = negated-within n (rounded_down k (negated e)) (down_within n k (negated e) (negated-within n e small))

-- ---- the list

abbrev EachWithin : ℕ → List Ext → Type 0
EachWithin n items = (j : ℕ) → IsWithin n (whole (item items j))

none_within : (n : ℕ) → EachWithin n []
none_within n zero = nothing_within n
none_within n (suc j) = nothing_within n

one_more : (n : ℕ) (p : Ext) (items : List Ext) → IsWithin n (whole p) → EachWithin n items → EachWithin n (p ∷ items)
one_more n p items here each zero = here
one_more n p items here each (suc j) = each j

points_within : (n k : ℕ) (items : List Ext) → EachWithin n items → EachWithin n (rounded_points k items)
points_within n k [] each = each
points_within n k (p ∷ []) each = one_more n (rounded_up k p) [] (up_within n k p (each 0)) (none_within n)
points_within n k (p ∷ s ∷ rest) each =
    one_more n (rounded_down k p) (s ∷ rounded_points k rest) (down_within n k p (each 0))
    (one_more n s (rounded_points k rest) (each 1) (points_within n k rest (λ j. each (suc (suc j)))))

kept_within : (n : ℕ) (p s : Ext) (rest : List Ext) (b : Bool) → is_same_end p (first (without_flat rest)) ≡ b
    → EachWithin n (p ∷ s ∷ rest) → EachWithin n (without_flat rest) → EachWithin n (without_flat (p ∷ s ∷ rest))
kept_within n p s rest true e each kept j = rw e (kept j)
kept_within n p s rest false e each kept j = rw e (one_more n p (s ∷ without_flat rest) (each 0) (one_more n s (without_flat rest) (each 1) kept) j)

flat_within : (n : ℕ) (items : List Ext) → EachWithin n items → EachWithin n (without_flat items)
flat_within n [] each = each
flat_within n (p ∷ []) each = each
flat_within n (p ∷ s ∷ rest) each =
    kept_within n p s rest (is_same_end p (first (without_flat rest))) refl each (flat_within n rest (λ j. each (suc (suc j))))

each_level_within : (n k : ℕ) (items : List Ext) → EachWithin n items → EachWithin n (level_items k items)
each_level_within n k [] each = each
each_level_within n k (p ∷ []) each =
    flat_within n (rounded_down k p ∷ At (pos 0) ∷ rounded_up k p ∷ [])
    (one_more n (rounded_down k p) (At (pos 0) ∷ rounded_up k p ∷ []) (down_within n k p (each 0))
    (one_more n (At (pos 0)) (rounded_up k p ∷ []) (nothing_within n)
    (one_more n (rounded_up k p) [] (up_within n k p (each 0)) (none_within n))))
each_level_within n k (p ∷ s ∷ rest) each = flat_within n (rounded_points k (p ∷ s ∷ rest)) (points_within n k (p ∷ s ∷ rest) each)

pub within_level : (n k : ℕ) (items : List Ext) → AreWithin n items → AreWithin n (level_items k items)
within_level n k items within j inside = each_level_within n k items (item_within n items within) j

-- ---- what the trait asks

pub level_within : (k : ℕ) (items : List Ext) → AreWithin number_most items → AreWithin number_most (level_items k items)
level_within k items within = within_level number_most k items within

pub level_short : (k : ℕ) (items : List Ext) → IsCurveList items → AreWithin number_most items → length (level_items k items) ≤ 4 * number_most + 5
level_short k items list within =
    length-short number_most (level_items k items) (level-is_list k items list) (within_level number_most k items within)

pub three_times : (weight : ℕ) → 1 ≤ weight → 1 ≤ 3 * weight
three_times weight some = omega arith
