-- The word of a trial's number.
use Rattle.std.specs.Prelude.{ℕ, ◌^◌, nat_lt, nat_le, if◌then◌else◌, List, length, Option, None, Some}
use Rattle.model_text.specs.NumberWords.{digits_of}

-- the most digits
abbrev pub digits_most : ℕ
digits_most = 20

-- a number that 64 bits hold
abbrev pub fitting : Option ℕ → Option ℕ
fitting None = None
fitting (Some n) = if nat_lt n (2 ^ 64) then Some n else None

-- 1 to `digits_most` ASCII digits, leading zeros among them, without a sign
abbrev pub trial_number : List ℕ → Option ℕ
trial_number word = if nat_le (length word) digits_most then fitting (digits_of word) else None
