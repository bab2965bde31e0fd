-- The faults of a list: the tests in their order, and the place that each names.
use Rattle.std.specs.Prelude.{◌≡◌, ℕ, ◌+◌, ◌-◌, ◌%◌, ◌<◌, ◌≤◌, ◌==◌, nat_le, ℤ, Bool, true, ◌&&◌, ◌⊎◌, IsTrue, Option, None, Some, List, length}
use Rattle.theory.specs.declared.ext.Ext.{Ext}
use Rattle.theory.specs.declared.ext.Ext.TheVariants.{MinusInf, At, PlusInf}
use Rattle.theory.specs.First.{IsFirstFailing}
use Rattle.theory.specs.Ends.{whole, IsBelow}
use Rattle.theory.specs.CurveList.{item}
use Rattle.theory.specs.Limits.{items_most, AreWithin, number_most, base_most, IsWithin}
use Rattle.mono_curve.specs.declared.fault.CurveFault.{CurveFault}
use Rattle.mono_curve.specs.declared.fault.CurveFault.TheVariants.{Even, Long, Infinite, Magnitude, Order, NoMemory}
use Rattle.mono_curve.specs.CurveValue.{IsValidCurve}

-- what a search for the first place that fails answers
abbrev pub IsFirstFailure : (ℕ → Type 0) → ℕ → Option ℕ → Type 0
IsFirstFailure P count None = (k : ℕ) → k < count → P k
IsFirstFailure P count (Some k) = IsFirstFailing count P k

-- minus infinity may stand first and plus infinity last, in a list of three items or more
abbrev pub may_stand : Ext → ℕ → ℕ → Bool
may_stand MinusInf count k = nat_le 3 count && (k == 0)
may_stand (At a) count k = true
may_stand PlusInf count k = nat_le 3 count && (k + 1 == count)

abbrev pub IsPlaced : List Ext → ℕ → Type 0
IsPlaced items k = IsTrue (may_stand (item items k) (length items) k)

abbrev pub IsSmall : List Ext → ℕ → Type 0
IsSmall items k = IsWithin number_most (whole (item items k))

-- the item is greater than the item two places before it
abbrev pub Rises : List Ext → ℕ → Type 0
Rises items k = 2 ≤ k → IsBelow (item items (k - 2)) (item items k)

-- ---- what holds once a test is passed

pub record IsSized (items : List Ext) : Type 0 where
  pub odd : length items % 2 ≡ 1
  pub short : length items ≤ items_most

pub record ArePlaced (items : List Ext) : Type 0 where
  pub sized : IsSized items
  pub placed : (k : ℕ) → k < length items → IsPlaced items k

-- the place of the first large item, or the length where it is the base that is too large
abbrev pub IsTooLarge : List Ext → ℤ → ℕ → Type 0
IsTooLarge items base k =
    IsFirstFailing (length items) (IsSmall items) k ⊎ ((k ≡ length items) × AreWithin number_most items × (¬ (IsWithin base_most base)))

-- ---- which fault a list has

abbrev pub IsFault : List Ext → ℤ → CurveFault → Type 0
IsFault items base Even = length items % 2 ≡ 0
IsFault items base Long = (length items % 2 ≡ 1) × (items_most < length items)
IsFault items base (Infinite k) = IsSized items × IsFirstFailing (length items) (IsPlaced items) k
IsFault items base (Magnitude k) = ArePlaced items × IsTooLarge items base k
IsFault items base (Order k) = ArePlaced items × AreWithin number_most items × IsWithin base_most base × IsFirstFailing (length items) (Rises items) k
IsFault items base NoMemory = IsValidCurve (record { items = items; base = base })
