-- Steps and numbers as words. The forward step over arc j is the word j + 1, the backward one -(j + 1), and 0 is no step. Read back,
-- a word gives the lowest 32 bits of its number: all that a number of an arc or a node has.
use Rattle.std.specs.Prelude.{Bool, nat_lt, unwrap_or, ℕ, zero, suc, ◌+◌, ◌%◌, ◌^◌, ℤ, pos, negsuc, true, false, Option, Some, None, if◌then◌else◌, nat_abs}
use Rattle.theory.specs.declared.network.Step.{Step}

abbrev pub word_of : Step → ℤ
word_of s = if s.forward then pos (s.arc.0 + 1) else negsuc s.arc.0

abbrev pub label_of : ℤ → Option Step
label_of (pos zero) = None
label_of (pos (suc j)) = Some (record { arc = record { 0 = j % 2 ^ 32 }; forward = true })
label_of (negsuc j) = Some (record { arc = record { 0 = j % 2 ^ 32 }; forward = false })

abbrev pub index_of : ℤ → ℕ
index_of z = nat_abs z % 2 ^ 32

-- a word that stands for no step is read as the forward step over arc 0
abbrev pub step_of : ℤ → Step
step_of z = unwrap_or (label_of z) (record { arc = record { 0 = 0 }; forward = true })

-- 0 is no mark
abbrev pub mark_of : ℤ → Bool
mark_of z = nat_lt 0 (nat_abs z)
