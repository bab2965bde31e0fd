-- Readings of the conjugate list. A pair of the list, swapped, is a pair of the conjugate; and since the conjugate of the
-- conjugate is the list, the other way round too. So the range at a tension of the list gives the slopes of the conjugate
-- at that number, and its slopes the range.
use Rattle.std.proofs.Common.{ℤ, List}
use Rattle.theory.specs.declared.ext.Ext.{Ext}
use Rattle.theory.specs.CurveList.{IsCurveList}
use Rattle.theory.specs.OnCurve.{IsOnCurve}
use Rattle.theory.specs.Views.{conjugate_items}
use Rattle.theory.specs.Readings.{IsSlopes, IsRange}
use Rattle.theory.proofs.ConjugateList.{conjugate-is_list, conjugate-pair, conjugate-items_twice}

-- ---- pairs both ways

pub pair_from_conjugate : (items : List Ext) (x v : ℤ) → IsCurveList items → IsOnCurve 1 (conjugate_items items) x v → IsOnCurve 1 items v x
pair_from_conjugate items x v list pair =
    rw (conjugate-items_twice items list) at (conjugate-pair 1 (conjugate_items items) x v (conjugate-is_list items list).is_list pair)

-- the range at x gives the slopes of the conjugate at x
pub slopes-conjugate : (items : List Ext) (x : ℤ) (low high : Ext) → IsCurveList items → IsRange items x low high → IsSlopes (conjugate_items items) x low high
slopes-conjugate items x low high list range =
    let ends = conjugate-is_list items list in
    record {
      pairs = λ v. (
        λ pair. (range.pairs v).0 (pair_from_conjugate items x v list pair),
        λ between. conjugate-pair 1 items v x list ((range.pairs v).1 between),
      );
      below = λ outside. range.below (rw ends.domain_low at outside);
      above = λ outside. range.above (rw ends.domain_high at outside);
    }

-- and the slopes at v its range at v
pub range-conjugate : (items : List Ext) (v : ℤ) (low high : Ext) → IsCurveList items → IsSlopes items v low high → IsRange (conjugate_items items) v low high
range-conjugate items v low high list slopes =
    let ends = conjugate-is_list items list in
    record {
      pairs = λ x. (
        λ pair. (slopes.pairs x).0 (pair_from_conjugate items x v list pair),
        λ between. conjugate-pair 1 items v x list ((slopes.pairs x).1 between),
      );
      below = λ outside. slopes.below (rw ends.span_low at outside);
      above = λ outside. slopes.above (rw ends.span_high at outside);
    }
