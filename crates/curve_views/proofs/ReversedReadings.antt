-- Readings of the reversed list. The opposites of a pair are a pair of the reversed list, and since the reversed of the
-- reversed is the list, the other way round too. So a reading of the list at the opposite number, its two answers
-- negated and changed over, is the reading of the reversed list.
use Rattle.std.proofs.Common.{◌≡◌, ℤ, neg_ℤ, true, false, List, refl, sym, ap, arith}
use Rattle.std.proofs.lemmas.Int.{ints}
use Rattle.theory.specs.declared.ext.Ext.{Ext}
use Rattle.theory.specs.declared.ext.Ext.TheVariants.{MinusInf, At, PlusInf}
use Rattle.theory.specs.Ends.{negated, IsBelow}
use Rattle.theory.specs.CurveList.{IsCurveList, first, last}
use Rattle.theory.specs.Span.{span_low, span_high}
use Rattle.theory.specs.Views.{reversed_items}
use Rattle.theory.specs.Readings.{IsUnder, IsOver, AreBoth, IsSlopes, IsRange}
use Rattle.theory.proofs.ReversedPairs.{pair_from_reversed, pair_to_reversed, first-reversed, last-reversed, span_low-reversed, span_high-reversed}

-- ---- ends of the opposite sign

under_of_over : (e : Ext) (v : ℤ) → IsOver e (neg_ℤ v) → IsUnder (negated e) v
under_of_over MinusInf v h = h
under_of_over (At b) v h = omega (arith, ints)
under_of_over PlusInf v h = h

over_of_under : (e : Ext) (v : ℤ) → IsUnder e (neg_ℤ v) → IsOver (negated e) v
over_of_under MinusInf v h = h
over_of_under (At a) v h = omega (arith, ints)
over_of_under PlusInf v h = h

over_from_under : (e : Ext) (v : ℤ) → IsUnder (negated e) v → IsOver e (neg_ℤ v)
over_from_under MinusInf v h = h
over_from_under (At b) v h = omega (arith, ints)
over_from_under PlusInf v h = h

under_from_over : (e : Ext) (v : ℤ) → IsOver (negated e) v → IsUnder e (neg_ℤ v)
under_from_over MinusInf v h = h
under_from_over (At a) v h = omega (arith, ints)
under_from_over PlusInf v h = h

below_from_above : (e : Ext) (x : ℤ) → IsBelow (At x) (negated e) → IsBelow e (At (neg_ℤ x))
below_from_above MinusInf x h = refl
below_from_above (At b) x h = sym (omega (arith, ints))
below_from_above PlusInf x h = let f : false ≡ true = h in cc

above_from_below : (e : Ext) (x : ℤ) → IsBelow (negated e) (At x) → IsBelow (At (neg_ℤ x)) e
above_from_below MinusInf x h = let f : false ≡ true = h in cc
above_from_below (At a) x h = sym (omega (arith, ints))
above_from_below PlusInf x h = refl

both_negated : (e low high : Ext) → AreBoth e low high → AreBoth (negated e) (negated high) (negated low)
both_negated e low high both = record { one = ap negated both.other; other = ap negated both.one }

-- ---- the readings

pub slopes-reversed : (items : List Ext) (x : ℤ) (low high : Ext) → IsCurveList items → IsSlopes items (neg_ℤ x) low high
    → IsSlopes (reversed_items items) x (negated high) (negated low)
slopes-reversed items x low high list slopes =
    record {
      pairs = λ v. (
        λ pair. (let ends = (slopes.pairs (neg_ℤ v)).0 (pair_from_reversed items x v list pair) in (under_of_over high v ends.1, over_of_under low v ends.0)),
        λ ends. pair_to_reversed items x v list ((slopes.pairs (neg_ℤ v)).1 (under_from_over low v ends.1, over_from_under high v ends.0)),
      );
      below = λ outside. both_negated PlusInf low high (slopes.above (below_from_above (last items) x (rw (first-reversed items list) at outside)));
      above = λ outside. both_negated MinusInf low high (slopes.below (above_from_below (first items) x (rw (last-reversed items list) at outside)));
    }

pub range-reversed : (items : List Ext) (v : ℤ) (low high : Ext) → IsCurveList items → IsRange items (neg_ℤ v) low high
    → IsRange (reversed_items items) v (negated high) (negated low)
range-reversed items v low high list range =
    record {
      pairs = λ x. (
        λ pair. (let ends = (range.pairs (neg_ℤ x)).0 (pair_from_reversed items x v list pair) in (under_of_over high x ends.1, over_of_under low x ends.0)),
        λ ends. pair_to_reversed items x v list ((range.pairs (neg_ℤ x)).1 (under_from_over low x ends.1, over_from_under high x ends.0)),
      );
      below = λ outside. both_negated PlusInf low high (range.above (below_from_above (span_high items) v (rw (span_low-reversed items list) at outside)));
      above = λ outside. both_negated MinusInf low high (range.below (above_from_below (span_low items) v (rw (span_high-reversed items list) at outside)));
    }
