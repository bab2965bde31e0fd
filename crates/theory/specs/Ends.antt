-- Ends: whole numbers and the two infinities, as bounds of fractions.
-- A fraction is its numerator x over a common denominator q; an infinite end bounds nothing.
use Rattle.std.specs.Prelude.{ℕ, ℤ, pos, ◌*ℤ◌, neg_ℤ, ◌≤ℤ◌, ◌<ℤ◌, Bool, true, false, IsTrue, int_lt}
use Rattle.theory.specs.declared.ext.Ext.{Ext}
use Rattle.theory.specs.declared.ext.Ext.TheVariants.{MinusInf, At, PlusInf}

abbrev pub is_finite : Ext → Bool
is_finite MinusInf = false
is_finite (At a) = true
is_finite PlusInf = false

abbrev pub IsFinite : Ext → Type 0
IsFinite e = IsTrue (is_finite e)

-- the number of a finite end, else 0
abbrev pub whole : Ext → ℤ
whole MinusInf = pos 0
whole (At a) = a
whole PlusInf = pos 0

-- the end of the opposite sign
abbrev pub negated : Ext → Ext
negated MinusInf = PlusInf
negated (At a) = At (neg_ℤ a)
negated PlusInf = MinusInf

-- the strict order: minus infinity, the numbers, plus infinity
abbrev pub is_below : Ext → Ext → Bool
is_below MinusInf MinusInf = false
is_below MinusInf (At b) = true
is_below MinusInf PlusInf = true
is_below (At a) MinusInf = false
is_below (At a) (At b) = int_lt a b
is_below (At a) PlusInf = true
is_below PlusInf e = false

abbrev pub IsBelow : Ext → Ext → Type 0
IsBelow d e = IsTrue (is_below d e)

-- x / q is at least, at most, the end
abbrev pub IsAtLeast : ℕ → Ext → ℤ → Type 0
IsAtLeast q MinusInf x = Unit {0}
IsAtLeast q (At a) x = (pos q *ℤ a) ≤ℤ x
IsAtLeast q PlusInf x = Unit {0}

abbrev pub IsAtMost : ℕ → Ext → ℤ → Type 0
IsAtMost q MinusInf x = Unit {0}
IsAtMost q (At b) x = x ≤ℤ (pos q *ℤ b)
IsAtMost q PlusInf x = Unit {0}

-- x / q lies between the two ends
pub record IsBetween (q : ℕ) (low high : Ext) (x : ℤ) : Type 0 where
  pub least : IsAtLeast q low x
  pub most : IsAtMost q high x

-- x / q is above, below, the end
abbrev pub IsPast : ℕ → Ext → ℤ → Type 0
IsPast q MinusInf x = Unit {0}
IsPast q (At a) x = (pos q *ℤ a) <ℤ x
IsPast q PlusInf x = Unit {0}

abbrev pub IsBefore : ℕ → Ext → ℤ → Type 0
IsBefore q MinusInf x = Unit {0}
IsBefore q (At b) x = x <ℤ (pos q *ℤ b)
IsBefore q PlusInf x = Unit {0}
