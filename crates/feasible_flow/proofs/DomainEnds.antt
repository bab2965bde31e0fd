-- The ends of a domain: the lower one is never plus infinity, the upper one never minus infinity, and they are in order.
use Rattle.std.proofs.Common.{◌≡◌, ◌-◌, ℤ, ◌≤ℤ◌, Bool, true, false, if◌then◌else◌, List, length, arith}
use Rattle.std.proofs.lemmas.Int.{ints}
use Rattle.theory.specs.declared.ext.Ext.{Ext}
use Rattle.theory.specs.declared.ext.Ext.TheVariants.{MinusInf, At, PlusInf}
use Rattle.theory.specs.Ends.{whole, IsBelow}
use Rattle.theory.specs.CurveList.{IsCurveList, first, last}
use Rattle.theory.specs.Limits.{AreWithin, number_most, IsWithin}
use Rattle.theory.proofs.Shape.{Shape, single, long, shape_by_place}
use Rattle.theory.proofs.Places.{first_at, last_at}
use Rattle.theory.proofs.Bounds.{item_within}
use Rattle.theory.proofs.ZeroCost.{below_last}

pub data AreEnds : Ext → Ext → Type 0 where
  both : {a b : ℤ} → a ≤ℤ b → AreEnds (At a) (At b)
  from_a_point : {a : ℤ} → AreEnds (At a) PlusInf
  to_a_point : {b : ℤ} → AreEnds MinusInf (At b)
  everywhere : AreEnds MinusInf PlusInf

below-ends : (low high : Ext) → IsBelow low high → AreEnds low high
below-ends MinusInf MinusInf h = let f : false ≡ true = h in cc
below-ends MinusInf (At b) h = to_a_point
below-ends MinusInf PlusInf h = everywhere
below-ends (At a) MinusInf h = let f : false ≡ true = h in cc
below-ends (At a) (At b) h = both (omega (arith, ints))
below-ends (At a) PlusInf h = from_a_point
below-ends PlusInf high h = let f : false ≡ true = h in cc

shape-ends : {items : List Ext} → Shape items → AreEnds (first items) (last items)
shape-ends single = both (omega (arith, ints))
shape-ends (long {l = l} {m = m} {rest = rest} below more) = below-ends l _ (below_last l below more)

pub list-ends : (items : List Ext) → IsCurveList items → AreEnds (first items) (last items)
list-ends items list = shape-ends (shape_by_place items list)

pub first-within : (items : List Ext) → AreWithin number_most items → IsWithin number_most (whole (first items))
first-within items within = rw (← first_at items) (item_within number_most items within 0)

pub last-within : (items : List Ext) → IsCurveList items → AreWithin number_most items → IsWithin number_most (whole (last items))
last-within items list within =
    rw (← last_at items (length items - 1) (omega (arith, list.odd))) (item_within number_most items within (length items - 1))

-- the end of a domain that a step leads to
pub ahead-within : (items : List Ext) (low high end : Ext) (forward : Bool) → IsCurveList items → AreWithin number_most items
    → low ≡ first items → high ≡ last items → end ≡ (if forward then high else low) → IsWithin number_most (whole end)
ahead-within items low high end true list within low_is high_is end_is = rw (end_is, high_is) (last-within items list within)
ahead-within items low high end false list within low_is high_is end_is = rw (end_is, low_is) (first-within items within)
