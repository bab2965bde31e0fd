-- The numbers of derived lists. The conjugate list has those of the list, but for an infinite item that goes or comes at either
-- end; the reversed list has their opposites; the zero-cost list has 0 and the ends. So a derived list is within the limits that
-- the list is within, and no longer than one within them can be. Of the bases: the conjugate's conjugate has the curve's own,
-- and the conjugate of the reversed curve that of the curve's conjugate, since the reversed curve rests at the opposite tension.
use Rattle.std.specs.Prelude.{◌≡◌, ℕ, zero, suc, ◌+◌, ◌-◌, ◌*◌, ◌≤◌, ℤ, pos, neg_ℤ, false, List, [], ◌∷◌, length}
use Rattle.std.proofs.Common.{sym, subst, ◌∙◌, ap, arith}
use Rattle.theory.specs.declared.ext.Ext.{Ext}
use Rattle.theory.specs.declared.ext.Ext.TheVariants.{MinusInf, At, PlusInf}
use Rattle.theory.specs.Ends.{whole, is_below}
use Rattle.theory.specs.CurveList.{IsCurveList, Listing, item, last}
use Rattle.theory.specs.Span.{span_low, span_high, rest_tension}
use Rattle.theory.specs.ConjugateCost.{conjugate_cost}
use Rattle.theory.specs.Views.{turned_front, turned_back, conjugate_items, conjugate_of, reversed_items, reversed_of, zero_cost_items}
use Rattle.theory.specs.Limits.{AreWithin, number_most, base_most, IsWithin}
use Rattle.theory.proofs.Shape.{shape_by_place}
use Rattle.theory.proofs.Places.{last_at}
use Rattle.theory.proofs.Bounds.{item_within, length-short, nothing_within, negated-within}
use Rattle.theory.proofs.ConjugateList.{conjugate-is_list}
use Rattle.theory.proofs.ConjugateCost.{conjugate-twice}
use Rattle.theory.proofs.ReversedList.{item-reversed, length-reversed, reversed-is_list}
use Rattle.theory.proofs.ReversedPairs.{span_low-reversed, span_high-reversed}
use Rattle.theory.proofs.ReversedCost.{ordered_ends, clip-turned, conjugate_cost-reversed}
use Rattle.theory.proofs.ZeroCost.{zero_cost-is_list}

-- ---- the conjugate list

none_within : (n k : ℕ) → IsWithin n (whole (item [] k))
none_within n zero = nothing_within n
none_within n (suc k) = nothing_within n

one_within : (n : ℕ) (e f : Ext) → IsWithin n (whole e) → IsWithin n (whole f) → (k : ℕ) → IsWithin n (whole (item (e ∷ f ∷ []) k))
one_within n e f h g zero = h
one_within n e f h g (suc zero) = g
one_within n e f h g (suc (suc k)) = none_within n k

turned_back-within : (n : ℕ) (items : List Ext) → ((k : ℕ) → IsWithin n (whole (item items k))) → (k : ℕ) → IsWithin n (whole (item (turned_back items) k))
turned_back-within n [] each k = each k
turned_back-within n (MinusInf ∷ []) each k = one_within n MinusInf PlusInf (nothing_within n) (nothing_within n) k
turned_back-within n (At b ∷ []) each k = one_within n (At b) PlusInf (each 0) (nothing_within n) k
turned_back-within n (PlusInf ∷ []) each k = none_within n k
turned_back-within n (p ∷ r ∷ rest) each zero = each 0
turned_back-within n (p ∷ r ∷ rest) each (suc k) = turned_back-within n (r ∷ rest) (λ j. each (suc j)) k

turned_front-within : (n : ℕ) (items : List Ext) → ((k : ℕ) → IsWithin n (whole (item items k))) → (k : ℕ) → IsWithin n (whole (item (turned_front items) k))
turned_front-within n [] each k = each k
turned_front-within n (MinusInf ∷ rest) each k = each (suc k)
turned_front-within n (At a ∷ rest) each zero = nothing_within n
turned_front-within n (At a ∷ rest) each (suc k) = each k
turned_front-within n (PlusInf ∷ rest) each zero = nothing_within n
turned_front-within n (PlusInf ∷ rest) each (suc k) = each k

pub within_for : (n : ℕ) (items : List Ext) → AreWithin n items → AreWithin n (conjugate_items items)
within_for n items within k h =
    turned_back-within n (turned_front items) (turned_front-within n items (item_within n items within)) k

pub conjugate_short : (items : List Ext) → IsCurveList items → AreWithin number_most items → length (conjugate_items items) ≤ 4 * number_most + 5
conjugate_short items list within =
    length-short number_most (conjugate_items items) (conjugate-is_list items list).is_list (within_for number_most items within)

pub conjugate_within : (items : List Ext) → AreWithin number_most items → AreWithin number_most (conjugate_items items)
conjugate_within items within = within_for number_most items within

-- ---- the reversed list

pub reversed_within : (items : List Ext) → AreWithin number_most items → AreWithin number_most (reversed_items items)
reversed_within items within k h =
    let same = length-reversed items in
    let j = length items - 1 - k in
    rw (item-reversed items j k (omega arith)) (negated-within number_most (item items j) (within j (omega arith)))

pub reversed_short : (items : List Ext) → IsCurveList items → AreWithin number_most items → length (reversed_items items) ≤ 4 * number_most + 5
reversed_short items list within = length-short number_most (reversed_items items) (reversed-is_list items list) (reversed_within items within)

-- ---- the zero-cost list

three_within : (n : ℕ) (p r : Ext) → IsWithin n (whole p) → IsWithin n (whole r) → AreWithin n (p ∷ At (pos 0) ∷ r ∷ [])
three_within n p r h g zero inside = h
three_within n p r h g (suc zero) inside = nothing_within n
three_within n p r h g (suc (suc zero)) inside = g
three_within n p r h g (suc (suc (suc k))) inside = absurd (omega arith)

within_zero_cost : (n : ℕ) (items : List Ext) → AreWithin n items → AreWithin n (zero_cost_items items)
within_zero_cost n [] within = within
within_zero_cost n (p ∷ []) within = within
within_zero_cost n (p ∷ r ∷ rest) within =
    let items = p ∷ r ∷ rest in
    let end : IsWithin n (whole (last items)) = rw (← last_at items (length items - 1) (omega arith)) (item_within n items within (length items - 1)) in
    three_within n p (last items) (within 0 (omega arith)) end

pub zero_cost_within : (items : List Ext) → AreWithin number_most items → AreWithin number_most (zero_cost_items items)
zero_cost_within items within = within_zero_cost number_most items within

pub zero_cost_short : (items : List Ext) → IsCurveList items → AreWithin number_most items → length (zero_cost_items items) ≤ 4 * number_most + 5
zero_cost_short items list within = length-short number_most (zero_cost_items items) (zero_cost-is_list items list) (zero_cost_within items within)

-- ---- bases

pub conjugate_twice_base_within : (c : Listing) → IsCurveList c.items → IsWithin (2 * base_most) c.base → IsWithin (2 * base_most) (conjugate_of (conjugate_of c)).base
conjugate_twice_base_within c list within =
    subst (λ (d : Listing). IsWithin (2 * base_most) d.base) (sym (conjugate-twice c list)) within

ordered_span : (items : List Ext) → IsCurveList items → is_below (span_high items) (span_low items) ≡ false
ordered_span items list =
    let ends = conjugate-is_list items list in
    rw (ends.domain_low, ends.domain_high) at (ordered_ends (shape_by_place (conjugate_items items) ends.is_list))

rest_tension_reversed : (items : List Ext) → IsCurveList items → rest_tension (reversed_items items) ≡ neg_ℤ (rest_tension items)
rest_tension_reversed items list =
    rw (span_low-reversed items list, span_high-reversed items list) (clip-turned 1 (span_low items) (span_high items) (pos 0) (ordered_span items list))

pub reversed_conjugate_base_within : (c : Listing) → IsCurveList c.items → IsWithin (2 * base_most) (conjugate_of c).base → IsWithin (2 * base_most) (conjugate_of (reversed_of c)).base
reversed_conjugate_base_within c list within =
    let same = ap (conjugate_cost 1 (reversed_of c)) (rest_tension_reversed c.items list) ∙ conjugate_cost-reversed 1 c (rest_tension c.items) list in
    subst (λ (z : ℤ). IsWithin (2 * base_most) z) (sym same) within
