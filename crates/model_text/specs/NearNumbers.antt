-- Numbers as the reader keeps them: those beyond the limit of a model become the first number beyond it, with their sign.
use Rattle.std.specs.Prelude.{ℕ, ◌+◌, min, ℤ, pos, negsuc, neg_ℤ, List, Option, None, Some, if◌then◌else◌}
use Rattle.std.specs.Str.{all_ascii_digits}
use Rattle.std.specs.Str.Parse.{digits_value_after}
use Rattle.theory.specs.Limits.{number_most}
use Rattle.theory.specs.declared.ext.Ext.{Ext}
use Rattle.theory.specs.declared.ext.Ext.TheVariants.{MinusInf, At, PlusInf}

abbrev pub near_digits : ℕ → ℕ
near_digits n = min n (number_most + 1)

-- what digits after those of a number give
abbrev pub near_after : ℕ → List ℕ → ℕ
near_after n digits = near_digits (digits_value_after 10 n digits)

abbrev pub near_units : List ℕ → Option ℕ
near_units digits = if all_ascii_digits digits then Some (near_after 0 digits) else None

abbrev pub near_number : ℤ → ℤ
near_number (pos n) = pos (near_digits n)
near_number (negsuc n) = neg_ℤ (pos (near_digits (n + 1)))

abbrev pub near_item : Ext → Ext
near_item MinusInf = MinusInf
near_item (At z) = At (near_number z)
near_item PlusInf = PlusInf
