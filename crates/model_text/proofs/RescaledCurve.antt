-- A curve list whose items are exact at another scale is a curve list there: each item stands where it stood, an infinity stays
-- one, and the numbers of its points, and those of its slopes, keep their order.
use Rattle.std.specs.Prelude.{◌≡◌, ℕ, zero, suc, ◌+◌, ◌%◌, ◌<◌, false, unsigned_abs, List, [], ◌∷◌, length, refl}
use Rattle.std.proofs.Common.{arith, sym, ap, ◌∙◌, subst, lit≤}
use Rattle.theory.specs.declared.ext.Ext.{Ext}
use Rattle.theory.specs.declared.ext.Ext.TheVariants.{MinusInf, At, PlusInf}
use Rattle.theory.specs.CurveList.{IsCurveList, Listing, item}
use Rattle.theory.specs.Ends.{IsFinite, IsBelow, whole}
use Rattle.theory.specs.Limits.{number_most, base_most, AreWithin, IsWithin}
use Rattle.theory.proofs.Bounds.{within_more, nothing_within}
use Rattle.mono_curve.specs.CurveValue.{IsValidCurve}
use Rattle.model_text.specs.Model.{IsWithinLimits}
use Rattle.model_text.specs.declared.scale.Scale.{Scale}
use Rattle.model_text.specs.Rescaled.{rescaled_end, rescaled_items, rescaled_curve, are_items_inexact, is_end_inexact, are_inexact, of_flows, of_tensions, of_costs}
use Rattle.model_text.specs.declared.rescaling.Decimals.{Decimals}
use Rattle.model_text.proofs.ListTests.{neither}
use Rattle.model_text.proofs.RescaleLemmas.{numbers-rise, number-within}

pub items-count : (here next : Decimals) (items : List Ext) → length (rescaled_items here next items) ≡ length items
items-count here next [] = refl
items-count here next (e ∷ items) = ap suc (items-count next here items)

-- the decimals of the item at a place: those of points and of slopes in turn
turn : Decimals → Decimals → ℕ → Decimals
turn here next zero = here
turn here next (suc k) = turn next here k

turn-twice : (here next : Decimals) (k : ℕ) → turn here next (k + 2) ≡ turn here next k
unfolding turn
turn-twice here next k = let two : k + 2 ≡ suc (suc k) = omega arith in rw two refl

item-is : (here next : Decimals) (items : List Ext) (k : ℕ) → k < length items
    → item (rescaled_items here next items) k ≡ rescaled_end (turn here next k) (item items k)
unfolding turn
item-is here next [] k below = absurd (omega arith)
item-is here next (e ∷ items) zero below = refl
item-is here next (e ∷ items) (suc k) below = item-is next here items k (omega arith)

item-exact : (here next : Decimals) (items : List Ext) (k : ℕ) → are_items_inexact here next items ≡ false → k < length items
    → is_end_inexact (turn here next k) (item items k) ≡ false
unfolding turn
item-exact here next [] k exact below = absurd (omega arith)
item-exact here next (e ∷ items) zero exact below = (neither (is_end_inexact here e) (are_items_inexact next here items) exact).0
item-exact here next (e ∷ items) (suc k) exact below =
    item-exact next here items k (neither (is_end_inexact here e) (are_items_inexact next here items) exact).1 (omega arith)

-- ---- one end

finite-kept : (d : Decimals) (e : Ext) → IsFinite e → IsFinite (rescaled_end d e)
finite-kept d MinusInf finite = cc
finite-kept d (At a) finite = refl
finite-kept d PlusInf finite = cc

ends-rise : (d : Decimals) (low high : Ext) → is_end_inexact d low ≡ false → is_end_inexact d high ≡ false → IsBelow low high
    → IsBelow (rescaled_end d low) (rescaled_end d high)
ends-rise d MinusInf MinusInf first second less = less
ends-rise d MinusInf (At b) first second less = refl
ends-rise d MinusInf PlusInf first second less = refl
ends-rise d (At a) MinusInf first second less = less
ends-rise d (At a) (At b) first second less = numbers-rise d a b first second less
ends-rise d (At a) PlusInf first second less = refl
ends-rise d PlusInf high first second less = cc

end-within : (d : Decimals) (e : Ext) → is_end_inexact d e ≡ false → IsWithin number_most (whole (rescaled_end d e))
end-within d MinusInf exact = nothing_within number_most
end-within d (At a) exact = number-within d a exact
end-within d PlusInf exact = nothing_within number_most

-- ---- the list

module _ (here next : Decimals) (items : List Ext) (exact : are_items_inexact here next items ≡ false) where
  within-limits : AreWithin number_most (rescaled_items here next items)
  within-limits k below =
      let inside : k < length items = omega (arith, items-count here next items) in
      subst (λ e. IsWithin number_most (whole e)) (sym (item-is here next items k inside))
      (end-within (turn here next k) (item items k) (item-exact here next items k exact inside))

  is-list : IsCurveList items → IsCurveList (rescaled_items here next items)
  is-list list = record {
    odd = ap (λ n. n % 2) (items-count here next items) ∙ list.odd;
    rises = λ k below.
        let inside : k + 2 < length items = omega (arith, items-count here next items) in
        let low = item-exact here next items k exact (omega arith) in
        let high = item-exact here next items (k + 2) exact inside in
        subst (λ e. IsBelow e (item (rescaled_items here next items) (k + 2))) (sym (item-is here next items k (omega arith)))
        (subst (λ e. IsBelow (rescaled_end (turn here next k) (item items k)) e) (sym (item-is here next items (k + 2) inside ∙ ap (λ d. rescaled_end d (item items (k + 2))) (turn-twice here next k)))
        (ends-rise (turn here next k) (item items k) (item items (k + 2)) low (rw (turn-twice here next k) at high) (list.rises k inside)));
    inner_finite = λ k after before.
        let inside : k + 1 < length items = omega (arith, items-count here next items) in
        subst IsFinite (sym (item-is here next items k (omega arith))) (finite-kept (turn here next k) (item items k) (list.inner_finite k after inside));
    single_finite = λ one.
        let single : length items ≡ 1 = sym (items-count here next items) ∙ one in
        subst IsFinite (sym (item-is here next items 0 (omega arith))) (finite-kept (turn here next 0) (item items 0) (list.single_finite single));
  }

-- the curve of a model whose items and base are exact
pub rescaled-valid : (s t : Scale) (curve : Listing) → IsValidCurve curve → IsWithinLimits curve
    → are_items_inexact (of_flows s t) (of_tensions s t) curve.items ≡ false → are_inexact (of_costs s t) (unsigned_abs curve.base) ≡ false
    → IsValidCurve (rescaled_curve s t curve)
rescaled-valid s t curve valid limits items base =
    record {
      is_list = is-list (of_flows s t) (of_tensions s t) curve.items items valid.is_list;
      short = omega (arith, limits.short, items-count (of_flows s t) (of_tensions s t) curve.items);
      items_within = within-limits (of_flows s t) (of_tensions s t) curve.items items;
      base_within = within_more number_most base_most _ (lit≤ tt) (number-within (of_costs s t) curve.base base);
    }
