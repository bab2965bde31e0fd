-- Laws of the derived curves: each is a curve, conjugate and reversed undo themselves, and their costs are known.
use Rattle.std.specs.Prelude.{◌≡◌, ℕ, ◌≤◌, ℤ, neg_ℤ, List}
use Rattle.theory.specs.declared.ext.Ext.{Ext}
use Rattle.theory.specs.CurveList.{IsCurveList, Listing, first, last}
use Rattle.theory.specs.Cost.{cost}
use Rattle.theory.specs.Span.{InSpan, span_low, span_high}
use Rattle.theory.specs.ConjugateCost.{conjugate_cost}
use Rattle.theory.specs.OnCurve.{IsOnCurve}
use Rattle.theory.specs.Views.{conjugate_items, conjugate_of, reversed_items, reversed_of, zero_cost_items, level_items}

-- ---- the conjugate

pub record IsConjugate (items : List Ext) : Type 0 where
  pub is_list : IsCurveList (conjugate_items items)
  pub domain_low : first (conjugate_items items) ≡ span_low items
  pub domain_high : last (conjugate_items items) ≡ span_high items
  pub span_low : span_low (conjugate_items items) ≡ first items
  pub span_high : span_high (conjugate_items items) ≡ last items

-- its domain is the span and its span is the domain
abbrev pub ConjugateLaw : Type 0
ConjugateLaw = (items : List Ext) → IsCurveList items → IsConjugate items

abbrev pub ConjugateTwiceLaw : Type 0
ConjugateTwiceLaw = (c : Listing) → IsCurveList c.items → conjugate_of (conjugate_of c) ≡ c

-- the cost of the conjugate list is the conjugate cost
abbrev pub ConjugateCostLaw : Type 0
ConjugateCostLaw = (q : ℕ) (c : Listing) (w : ℤ) → 1 ≤ q → IsCurveList c.items → InSpan q c.items w
    → cost q (conjugate_of c) w ≡ conjugate_cost q c w

-- a pair of the curve, swapped, is a pair of the conjugate
abbrev pub ConjugatePairLaw : Type 0
ConjugatePairLaw = (q : ℕ) (items : List Ext) (x v : ℤ) → IsCurveList items → IsOnCurve q items x v → IsOnCurve q (conjugate_items items) v x

-- ---- the reversed curve

abbrev pub ReversedLaw : Type 0
ReversedLaw = (items : List Ext) → IsCurveList items → IsCurveList (reversed_items items)

-- a pair of the curve, each number negated, is a pair of the reversed curve
abbrev pub ReversedPairLaw : Type 0
ReversedPairLaw = (q : ℕ) (items : List Ext) (x v : ℤ) → IsCurveList items → IsOnCurve q items x v
    → IsOnCurve q (reversed_items items) (neg_ℤ x) (neg_ℤ v)

abbrev pub ReversedTwiceLaw : Type 0
ReversedTwiceLaw = (c : Listing) → reversed_of (reversed_of c) ≡ c

abbrev pub ReversedCostLaw : Type 0
ReversedCostLaw = (q : ℕ) (c : Listing) (x : ℤ) → IsCurveList c.items → cost q (reversed_of c) (neg_ℤ x) ≡ cost q c x

abbrev pub ReversedConjugateCostLaw : Type 0
ReversedConjugateCostLaw = (q : ℕ) (c : Listing) (w : ℤ) → IsCurveList c.items
    → conjugate_cost q (reversed_of c) (neg_ℤ w) ≡ conjugate_cost q c w

-- ---- the zero-cost and level lists

abbrev pub ZeroCostLaw : Type 0
ZeroCostLaw = (items : List Ext) → IsCurveList items → IsCurveList (zero_cost_items items)

abbrev pub LevelLaw : Type 0
LevelLaw = (k : ℕ) (items : List Ext) → IsCurveList items → IsCurveList (level_items k items)

-- level 0 is the curve itself
abbrev pub LevelZeroLaw : Type 0
LevelZeroLaw = (items : List Ext) → IsCurveList items → level_items 0 items ≡ items
