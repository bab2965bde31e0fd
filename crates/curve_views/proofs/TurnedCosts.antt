-- The costs at the points of the conjugate and of the reversed list. A finite point of the conjugate is a slope of the list. An end
-- of the slope's piece that is finite is on the curve with it, so by Fenchel's equality the conjugate cost is flow times slope less
-- the cost there. Only the first piece can begin at no end, and it has none at all only where it is the whole list: then 0 is on the
-- curve, at the cost of the base. The reversed list has the same points from the back, negated, at the same costs.
use Rattle.std.proofs.Common.{◌≡◌, ℕ, zero, suc, ◌+◌, ◌-◌, ◌*◌, ◌/◌, ◌%◌, ◌^◌, ◌<◌, ◌≤◌, ℤ, pos, Bool, true, false, List, length, refl, sym, ap, ◌∙◌, inl, inr, arith}
use Rattle.std.specs.Prelude.{neg_ℤ, ◌+ℤ◌, ◌-ℤ◌, ◌*ℤ◌, slice_index_or}
use Rattle.std.proofs.lemmas.Bool.{cases_lt}
use Rattle.std.proofs.lemmas.List.{get_or_default, get_or_past}
use Rattle.std.proofs.lemmas.Int.{ints}
use Rattle.theory.specs.declared.ext.Ext.{Ext}
use Rattle.theory.specs.declared.ext.Ext.TheVariants.{MinusInf, At, PlusInf}
use Rattle.theory.specs.Ends.{whole, is_finite, IsFinite, negated}
use Rattle.theory.specs.CurveList.{IsCurveList, Listing, item, first}
use Rattle.theory.specs.Cost.{cost}
use Rattle.theory.specs.ConjugateCost.{conjugate_cost}
use Rattle.theory.specs.OnCurve.{IsOnCurve}
use Rattle.theory.specs.Views.{conjugate_items, conjugate_of, reversed_items, reversed_of}
use Rattle.theory.proofs.Rings.{rings}
use Rattle.theory.proofs.Shape.{shape_by_place}
use Rattle.theory.proofs.Places.{first_at}
use Rattle.theory.proofs.Equality.{in_span}
use Rattle.theory.proofs.ConjugateCost.{cost-conjugate}
use Rattle.theory.proofs.ReversedList.{item-reversed, length-reversed}
use Rattle.theory.proofs.ReversedCost.{cost-reversed}
use Rattle.mono_curve.specs.PointCosts.{IsFinitePoint, point_cost, IsOnPiece}
use Rattle.mono_curve.proofs.ReadOff.{clash}
use Rattle.mono_curve.proofs.PieceCosts.{on_slope, left_on_piece, right_on_piece, zero_on_piece, cost_at_zero}
use Rattle.curve_views.specs.Turned.{slope_number, end_to_look_at}
use Rattle.curve_views.proofs.FlowOf.{conjugate_cost-pair}
use Rattle.curve_views.proofs.TurnedList.{first-ended, item-endless, item-ended}

-- ---- a point of the conjugate

pub record IsSlope (items : List Ext) (i k : ℕ) : Type 0 where
  pub there : k < length items / 2
  pub is : item (conjugate_items items) i ≡ item items (2 * k + 1)

plus_infinite : (e : Ext) → e ≡ PlusInf → IsFinite e → ⊥
plus_infinite e is finite = let h = rw is at finite in cc

minus_infinite : (e : Ext) → e ≡ MinusInf → IsFinite e → ⊥
minus_infinite e is finite = let h = rw is at finite in cc

-- what is finite is no item past the end
finite_inside : (items : List Ext) (j : ℕ) (e : Ext) → e ≡ slice_index_or items j PlusInf → IsFinite e → j < length items
finite_inside items j e is finite = elim (cases_lt j (length items)) [
  | inl inside ↦ inside
  | inr past ↦ absurd (plus_infinite e (is ∙ get_or_past items j PlusInf past) finite)
]

slope_at : (items : List Ext) (i j k : ℕ) → item (conjugate_items items) i ≡ slice_index_or items j PlusInf → IsFinite (item (conjugate_items items) i) → j ≡ 2 * k + 1 → IsSlope items i k
slope_at items i j k is finite place =
    let inside = finite_inside items j (item (conjugate_items items) i) is finite in
    record {
      there = omega arith;
      is = rw (← place) (is ∙ get_or_default items j PlusInf MinusInf inside);
    }

pub slope_of_point : (items : List Ext) (i : ℕ) (b : Bool) → IsCurveList items → is_finite (first items) ≡ b → IsFinitePoint (conjugate_items items) i → IsSlope items i (slope_number b i)
slope_of_point items i false list endless point =
    slope_at items i (i + 1) (i / 2) (item-endless items list endless i point.inside) point.finite (omega (arith, point.even))
slope_of_point items zero true list ended point = absurd (minus_infinite (item (conjugate_items items) 0) (first-ended items list ended) point.finite)
slope_of_point items (suc i) true list ended point =
    slope_at items (suc i) (suc i - 1) (suc i / 2 - 1) (item-ended items list ended (suc i) (omega arith) point.inside) point.finite (omega (arith, point.even))

-- ---- the cost there

at_end : (c : Listing) (f : ℤ) (k : ℕ) → IsCurveList c.items → k < length c.items / 2 → IsOnPiece c.items k f
    → f *ℤ whole (item c.items (2 * k + 1)) -ℤ cost 1 c f ≡ cost 1 (conjugate_of c) (whole (item c.items (2 * k + 1)))
at_end c f k list inside on =
    let s = whole (item c.items (2 * k + 1)) in
    let pair = on_slope c.items f k list inside on in
    conjugate_cost-pair c f s list pair ∙ sym (cost-conjugate 1 c s (omega arith) list (in_span 1 f s (shape_by_place c.items list) pair))

first_place : (items : List Ext) (k : ℕ) → k ≡ 0 → item items (2 * k) ≡ first items
first_place items k at_first = let e : 2 * k ≡ 0 = omega arith in rw e (first_at items)

-- the end that is looked at
pub record IsEnd (items : List Ext) (k at : ℕ) : Type 0 where
  pub inside : at < length items
  pub even : at % 2 ≡ 0
  pub on_piece : IsFinite (item items at) → IsOnPiece items k (whole (item items at))
  pub endless : is_finite (item items at) ≡ false → (is_finite (item items (2 * k)) ≡ false) × (is_finite (item items (2 * k + 2)) ≡ false)

left_end : (items : List Ext) (k : ℕ) → IsCurveList items → k < length items / 2 → is_finite (item items (2 * k)) ≡ true → IsEnd items k (2 * k)
left_end items k list inside finite =
    record { inside = omega arith; even = omega arith; on_piece = λ f. left_on_piece items k list inside f; endless = λ h. absurd (clash finite h) }

pub end_is : (items : List Ext) (k : ℕ) (b : Bool) → IsCurveList items → k < length items / 2 → is_finite (first items) ≡ b → IsEnd items k (end_to_look_at b k)
end_is items zero true list inside ended = left_end items 0 list inside (rw (first_at items) ended)
end_is items (suc k) true list inside ended = left_end items (suc k) list inside (list.inner_finite (2 * suc k) (omega arith) (omega arith))
end_is items (suc k) false list inside endless = left_end items (suc k) list inside (list.inner_finite (2 * suc k) (omega arith) (omega arith))
end_is items zero false list inside endless =
    record {
      inside = omega arith;
      even = refl;
      on_piece = λ f. right_on_piece items 0 list inside f;
      endless = λ h. (rw (first_at items) endless, h);
    }

pub price_by_end : (c : Listing) (i k at : ℕ) → IsCurveList c.items → IsSlope c.items i k → IsEnd c.items k at → IsFinite (item c.items at)
    → whole (item c.items at) *ℤ whole (item c.items (2 * k + 1)) -ℤ point_cost c at ≡ point_cost (conjugate_of c) i
price_by_end c i k at list slope end finite =
    rw slope.is (at_end c (whole (item c.items at)) k list slope.there (end.on_piece finite))

pub price_by_base : (c : Listing) (i k at : ℕ) → IsCurveList c.items → IsSlope c.items i k → IsEnd c.items k at → is_finite (item c.items at) ≡ false
    → neg_ℤ c.base ≡ point_cost (conjugate_of c) i
price_by_base c i k at list slope end infinite =
    let ends = end.endless infinite in
    let on = zero_on_piece c.items k list slope.there ends.0 ends.1 in
    let price = at_end c (pos 0) k list slope.there on in
    let base = cost_at_zero c k list slope.there ends.0 ends.1 in
    rw slope.is (nothing_less c.base (whole (item c.items (2 * k + 1))) (cost 1 c (pos 0)) base ∙ price)
  where
    nothing_less : (b s f : ℤ) → f ≡ b → neg_ℤ b ≡ pos 0 *ℤ s -ℤ f
    nothing_less b s f e = omega (arith, ints)

-- ---- a point of the reversed list

whole-negated : (e : Ext) → whole (negated e) ≡ neg_ℤ (whole e)
whole-negated MinusInf = refl
whole-negated (At a) = refl
whole-negated PlusInf = refl

finite-back : (e : Ext) → IsFinite (negated e) → IsFinite e
finite-back MinusInf h = cc
finite-back (At a) h = refl
finite-back PlusInf h = cc

pub reversed_point : (items : List Ext) (i : ℕ) → IsCurveList items → IsFinitePoint (reversed_items items) i → IsFinitePoint items (length items - 1 - i)
reversed_point items i list point =
    let same = length-reversed items in
    let there : i < length items = omega (arith, point.inside) in
    let j = length items - 1 - i in
    let turned = item-reversed items j i (omega arith) in
    record {
      inside = omega arith;
      even = omega (arith, list.odd, point.even);
      finite = finite-back (item items j) (rw turned at point.finite);
    }

pub reversed_price : (c : Listing) (i : ℕ) → IsCurveList c.items → i < length (reversed_items c.items) → point_cost c (length c.items - 1 - i) ≡ point_cost (reversed_of c) i
reversed_price c i list inside =
    let same = length-reversed c.items in
    let j = length c.items - 1 - i in
    let turned = item-reversed c.items j i (omega arith) in
    sym (cost-reversed 1 c (whole (item c.items j)) list) ∙ ap (cost 1 (reversed_of c)) (sym (ap whole turned ∙ whole-negated (item c.items j)))
