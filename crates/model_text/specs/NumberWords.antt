-- Words that are numbers, and words that are items of a curve list. A fixed number has at most so many decimals, and
-- counts units of 10^-decimals; without decimals it is a whole number.
use Rattle.std.specs.Prelude.{ℕ, ◌-◌, nat_lt, nat_le, ℤ, pos, neg_ℤ, Bool, not, ◌&&◌, ◌||◌, if◌then◌else◌, List, [], ◌∷◌, ◌++◌, length, replicate, ◌==◌, codes, Option, None, Some}
use Rattle.std.specs.List.{before_first, after_first}
use Rattle.std.specs.Option.{option_map}
use Rattle.std.specs.Str.{bytes_eq, all_ascii_digits}
use Rattle.std.specs.Str.Parse.{digits_value_after}
use Rattle.theory.specs.declared.ext.Ext.{Ext}
use Rattle.theory.specs.declared.ext.Ext.TheVariants.{MinusInf, At, PlusInf}

-- one or more ASCII digits, leading zeros among them
abbrev pub digits_of : List ℕ → Option ℕ
digits_of word = if not (length word == 0) && all_ascii_digits word then Some (digits_value_after 10 0 word) else None

-- what stands before the first point (46), and what stands behind it
abbrev pub before_point : List ℕ → List ℕ
before_point word = before_first (λ b. b == 46) word

abbrev pub behind_point : List ℕ → List ℕ
behind_point word = after_first (λ b. b == 46) word

-- of so many bytes, so many stand before a point and so many behind it: there is a point, but not with 1 to `decimals`
-- bytes behind it
abbrev pub ends_wrong : ℕ → ℕ → ℕ → ℕ → Bool
ends_wrong decimals before behind bytes = nat_lt before bytes && not (nat_le 1 behind && nat_le behind decimals)

-- digits, and then nothing or a point and further digits: without the point, and with zeros (48) up to the decimals
unfoldable pub units_of : ℕ → List ℕ → Option ℕ
units_of decimals word =
    if length (before_point word) == 0 || ends_wrong decimals (length (before_point word)) (length (behind_point word)) (length word) then None
    else digits_of (before_point word ++ behind_point word ++ replicate (decimals - length (behind_point word)) 48)

-- an optional sign (`+` 43, `-` 45), then such digits
abbrev pub fixed_of : ℕ → List ℕ → Option ℤ
fixed_of decimals [] = None
fixed_of decimals (sign ∷ word) =
    if sign == 45 then option_map (λ n. neg_ℤ (pos n)) (units_of decimals word)
    else (if sign == 43 then option_map (λ n. pos n) (units_of decimals word)
    else option_map (λ n. pos n) (units_of decimals (sign ∷ word)))

abbrev pub number_of : List ℕ → Option ℤ
number_of word = fixed_of 0 word

-- `-inf`, `+inf`, `inf` for plus infinity, or a number
abbrev pub item_of : ℕ → List ℕ → Option Ext
item_of decimals word =
    if bytes_eq word (codes "-inf") then Some MinusInf
    else (if bytes_eq word (codes "+inf") || bytes_eq word (codes "inf") then Some PlusInf
    else option_map (λ z. At z) (fixed_of decimals word))
