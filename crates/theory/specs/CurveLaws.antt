-- Laws of one curve: duality of cost and conjugate cost, and the order of the pairs on the curve.
use Rattle.std.specs.Prelude.{◌≡◌, ℕ, ◌≤◌, ℤ, pos, ◌+ℤ◌, ◌*ℤ◌, ◌≤ℤ◌, ◌<ℤ◌, List}
use Rattle.theory.specs.declared.ext.Ext.{Ext}
use Rattle.theory.specs.CurveList.{IsCurveList, Listing}
use Rattle.theory.specs.Domain.{InDomain}
use Rattle.theory.specs.Cost.{cost}
use Rattle.theory.specs.Span.{InSpan}
use Rattle.theory.specs.ConjugateCost.{conjugate_cost}
use Rattle.theory.specs.OnCurve.{IsOnCurve}

-- Fenchel's inequality: cost plus conjugate cost is never less than flow times tension
abbrev pub FenchelLaw : Type 0
FenchelLaw = (q : ℕ) (c : Listing) (x w : ℤ) → IsCurveList c.items → InDomain q c.items x → InSpan q c.items w
    → (x *ℤ w) ≤ℤ (pos q *ℤ cost q c x +ℤ pos q *ℤ conjugate_cost q c w)

-- with equality exactly on the curve
pub record FenchelEquality (q : ℕ) (c : Listing) (x w : ℤ) : Type 0 where
  pub on_curve : InDomain q c.items x → InSpan q c.items w
      → pos q *ℤ cost q c x +ℤ pos q *ℤ conjugate_cost q c w ≡ x *ℤ w → IsOnCurve q c.items x w
  pub in_span : IsOnCurve q c.items x w → InSpan q c.items w
  pub equal : IsOnCurve q c.items x w → pos q *ℤ cost q c x +ℤ pos q *ℤ conjugate_cost q c w ≡ x *ℤ w

abbrev pub FenchelEqualityLaw : Type 0
FenchelEqualityLaw = (q : ℕ) (c : Listing) (x w : ℤ) → 1 ≤ q → IsCurveList c.items → FenchelEquality q c x w

-- the inequality at a whole flow, against every tension w / q
abbrev pub WholeFlowLaw : Type 0
WholeFlowLaw = (q : ℕ) (c : Listing) (x w : ℤ) → 1 ≤ q → IsCurveList c.items → InDomain 1 c.items x → InSpan q c.items w
    → (x *ℤ w) ≤ℤ (pos q *ℤ cost 1 c x +ℤ conjugate_cost q c w)

-- the inequality at a whole tension, against every flow p / q
abbrev pub WholeTensionLaw : Type 0
WholeTensionLaw = (q : ℕ) (c : Listing) (p v : ℤ) → 1 ≤ q → IsCurveList c.items → InDomain q c.items p → InSpan 1 c.items v
    → (p *ℤ v) ≤ℤ (cost q c p +ℤ pos q *ℤ conjugate_cost 1 c v)

-- scaling the fraction: q x over q is x over 1
abbrev pub ScalingLaw : Type 0
ScalingLaw = (q : ℕ) (c : Listing) (z : ℤ) → 1 ≤ q → IsCurveList c.items
    → (cost q c (pos q *ℤ z) ≡ pos q *ℤ cost 1 c z) × (conjugate_cost q c (pos q *ℤ z) ≡ pos q *ℤ conjugate_cost 1 c z)

-- of two pairs on the curve, the one with the greater flow hasn't the lesser tension
abbrev pub PairsRiseLaw : Type 0
PairsRiseLaw = (q : ℕ) (items : List Ext) (x v y w : ℤ) → IsCurveList items → IsOnCurve q items x v → IsOnCurve q items y w
    → x <ℤ y → v ≤ℤ w

-- every whole flow of the domain has a whole tension on the curve, every whole tension of the span a whole flow
abbrev pub TensionOfFlowLaw : Type 0
TensionOfFlowLaw = (items : List Ext) (x : ℤ) → IsCurveList items → InDomain 1 items x → (v : ℤ) × IsOnCurve 1 items x v

abbrev pub FlowOfTensionLaw : Type 0
FlowOfTensionLaw = (items : List Ext) (v : ℤ) → IsCurveList items → InSpan 1 items v → (x : ℤ) × IsOnCurve 1 items x v
