-- Readings of a level, by readings of the curve below.
use Rattle.std.specs.Prelude.{ℕ, ◌+◌, ◌^◌, ℤ, pos, neg_ℤ, ◌*ℤ◌, Bool, if◌then◌else◌, List, [], ◌∷◌, ◌++◌}
use Rattle.std.specs.Int.{int_min, int_max}
use Rattle.theory.specs.declared.ext.Ext.{Ext}
use Rattle.theory.specs.declared.ext.Ext.TheVariants.{MinusInf, At, PlusInf}
use Rattle.theory.specs.Ends.{is_below}
use Rattle.theory.specs.Domain.{lowered}
use Rattle.theory.specs.Views.{rounded_down, rounded_up}

-- a point of the list at level k, by the last point: that one alone is rounded up
abbrev pub rounded_at : ℕ → Ext → Ext → Ext
rounded_at k end e = if is_below e end then rounded_down k e else rounded_up k e

-- the value of a staircase of values and thresholds in turn: the one before the first threshold that does not pass
abbrev pub walk : (Ext → Bool) → List Ext → Ext
walk pass [] = MinusInf
walk pass (a ∷ []) = a
walk pass (a ∷ t ∷ rest) = if pass t then walk pass rest else a

abbrev pub is_under : Ext → Ext → Bool
is_under y t = is_below t y

-- the slope on the left of a flow: points are the thresholds, and beyond the list the slopes are infinite
abbrev pub slope_left : List Ext → ℤ → Ext
slope_left items x = walk (is_under (At x)) (MinusInf ∷ (items ++ PlusInf ∷ []))

-- the number moved into the range from -n to n
abbrev pub limited : ℕ → ℤ → ℤ
limited n z = int_max (int_min z (pos n)) (neg_ℤ (pos n))

-- where the curve below is read for the slope on the left of the flow x at level k: x times 2 ^ k, though no further than just
-- past all points of the list, and not past the last of them
abbrev pub argument_below : ℕ → ℕ → Ext → ℤ → ℤ
argument_below n k end x = lowered 1 end (limited (n + 1) (pos (2 ^ k) *ℤ x))
