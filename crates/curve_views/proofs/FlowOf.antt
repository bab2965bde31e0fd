-- A flow of a tension, by the ends of its range, and what it tells of the conjugate cost.
use Rattle.std.proofs.Common.{◌≡◌, ℕ, ℤ, pos, ◌+ℤ◌, List, arith}
use Rattle.std.specs.Prelude.{◌↔◌, ◌-ℤ◌, ◌*ℤ◌}
use Rattle.std.proofs.lemmas.Int.{ints}
use Rattle.theory.specs.declared.ext.Ext.{Ext}
use Rattle.theory.specs.declared.ext.Ext.TheVariants.{MinusInf, At, PlusInf}
use Rattle.theory.specs.Ends.{whole}
use Rattle.theory.specs.CurveList.{IsCurveList, Listing}
use Rattle.theory.specs.Domain.{InDomain}
use Rattle.theory.specs.Span.{InSpan}
use Rattle.theory.specs.Cost.{cost}
use Rattle.theory.specs.ConjugateCost.{conjugate_cost}
use Rattle.theory.specs.OnCurve.{IsOnCurve}
use Rattle.theory.specs.Readings.{IsUnder, IsOver, IsRange}
use Rattle.theory.specs.Limits.{AreWithin, IsWithin}
use Rattle.theory.proofs.Pairs.{flow_of_tension}
use Rattle.theory.proofs.Equality.{equal_on_curve, fenchel_equality}
use Rattle.curve_views.specs.FlowBetween.{flow_between}
use Rattle.mono_curve.proofs.ReadingBounds.{range-within}

under_it : (low high : Ext) (z : ℤ) → IsUnder low z → IsOver high z → IsUnder low (flow_between low high)
under_it MinusInf high z under over = tt
under_it (At a) high z under over = omega (arith, ints)
under_it PlusInf high z under over = absurd under

over_it : (low high : Ext) (z : ℤ) → IsUnder low z → IsOver high z → IsOver high (flow_between low high)
over_it low MinusInf z under over = absurd over
over_it MinusInf (At b) z under over = omega (arith, ints)
over_it (At a) (At b) z under over = omega (arith, ints)
over_it PlusInf (At b) z under over = absurd under
over_it low PlusInf z under over = tt

between_within : (n : ℕ) (low high : Ext) → IsWithin n (whole low) → IsWithin n (whole high) → IsWithin n (flow_between low high)
between_within n (At a) high h g = h
between_within n MinusInf MinusInf h g = g
between_within n MinusInf (At b) h g = g
between_within n MinusInf PlusInf h g = g
between_within n PlusInf MinusInf h g = g
between_within n PlusInf (At b) h g = g
between_within n PlusInf PlusInf h g = g

pub pair_of_range : (items : List Ext) (v : ℤ) (low high : Ext) → IsCurveList items → InSpan 1 items v → IsRange items v low high → IsOnCurve 1 items (flow_between low high) v
pair_of_range items v low high list inside range =
    let some = flow_of_tension items v list inside in
    let ends = (range.pairs some.0).0 some.1 in
    (range.pairs (flow_between low high)).1 (under_it low high some.0 ends.0 ends.1, over_it low high some.0 ends.0 ends.1)

pub flow_between-within : (n : ℕ) (items : List Ext) (v : ℤ) (low high : Ext) → IsCurveList items → AreWithin n items → IsRange items v low high → IsWithin n (flow_between low high)
flow_between-within n items v low high list within range =
    let small = range-within n items v low high list within range in between_within n low high small.low small.high

-- Fenchel's equality, for the conjugate cost
pub conjugate_cost-pair : (c : Listing) (x v : ℤ) → IsCurveList c.items → IsOnCurve 1 c.items x v → x *ℤ v -ℤ cost 1 c x ≡ conjugate_cost 1 c v
conjugate_cost-pair c x v list pair = let e = equal_on_curve 1 c x v list pair in moved (x *ℤ v) (cost 1 c x) (conjugate_cost 1 c v) e
  where
    moved : (xv f h : ℤ) → pos 1 *ℤ f +ℤ pos 1 *ℤ h ≡ xv → xv -ℤ f ≡ h
    moved xv f h e = omega (arith, ints)

-- with equality exactly on the curve
pub conjugate_cost-equality : (c : Listing) (x v : ℤ) → IsCurveList c.items → InSpan 1 c.items v → InDomain 1 c.items x
    → (cost 1 c x +ℤ conjugate_cost 1 c v ≡ x *ℤ v) ↔ IsOnCurve 1 c.items x v
conjugate_cost-equality c x v list in_v in_x =
    let law = fenchel_equality 1 c x v (omega arith) list in (
      λ e. law.on_curve in_x in_v (with_ones (x *ℤ v) (cost 1 c x) (conjugate_cost 1 c v) e),
      λ pair. without_ones (x *ℤ v) (cost 1 c x) (conjugate_cost 1 c v) (law.equal pair),
    )
  where
    with_ones : (xv f h : ℤ) → f +ℤ h ≡ xv → pos 1 *ℤ f +ℤ pos 1 *ℤ h ≡ xv
    with_ones xv f h e = omega (arith, ints)

    without_ones : (xv f h : ℤ) → pos 1 *ℤ f +ℤ pos 1 *ℤ h ≡ xv → f +ℤ h ≡ xv
    without_ones xv f h e = omega (arith, ints)
