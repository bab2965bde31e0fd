-- Digits read one after the other, where a value past the limit stays the first one past it.
use Rattle.std.specs.Prelude.{◌≡◌, ℕ, ◌+◌, ◌-◌, ◌*◌, ◌<◌, min, Bool, true, false, ◌&&◌, List, [], ◌∷◌, ◌++◌, length, drop, refl}
use Rattle.std.specs.Str.{all_ascii_digits}
use Rattle.std.specs.Str.Parse.{digits_value_after}
use Rattle.std.specs.Char.{digit_value, is_ascii_digit}
use Rattle.std.proofs.Common.{arith, sym, ◌∙◌, ap, get_or}
use Rattle.std.proofs.lemmas.List.{drop_more}
use Rattle.theory.specs.Limits.{number_most}
use Rattle.model_text.specs.NearNumbers.{near_digits, near_after}

-- a number past the limit stays past it
after-min : (n : ℕ) (digits : List ℕ)
    → min (digits_value_after 10 (min n (number_most + 1)) digits) (number_most + 1) ≡ min (digits_value_after 10 n digits) (number_most + 1)
after-min n [] = omega arith
after-min n (d ∷ digits) =
    sym (after-min (min n (number_most + 1) * 10 + digit_value d) digits)
    ∙ ap (λ m. min (digits_value_after 10 m digits) (number_most + 1)) (omega arith)
    ∙ after-min (n * 10 + digit_value d) digits

digit-is : (d : ℕ) → is_ascii_digit d ≡ true → digit_value d ≡ d - 48
digit-is d is = grind arith

-- one digit more
pub near-step : (n i : ℕ) (digits : List ℕ) → i < length digits → is_ascii_digit (get_or digits i 0) ≡ true
    → near_after n (drop i digits) ≡ near_after (min (10 * n + (get_or digits i 0 - 48)) (number_most + 1)) (drop (i + 1) digits)
near-step n i digits below is =
    ap (near_after n) (drop_more digits i 0 below)
    ∙ ap (λ m. min (digits_value_after 10 m (drop (i + 1) digits)) (number_most + 1)) (let e = digit-is (get_or digits i 0) is in omega arith)
    ∙ sym (after-min (10 * n + (get_or digits i 0 - 48)) (drop (i + 1) digits))

pub digits-drop : (i : ℕ) (digits : List ℕ) → i < length digits
    → all_ascii_digits (drop i digits) ≡ is_ascii_digit (get_or digits i 0) && all_ascii_digits (drop (i + 1) digits)
digits-drop i digits below = ap all_ascii_digits (drop_more digits i 0 below)

-- ---- digits in two parts

pub value-append : (n : ℕ) (xs ys : List ℕ) → digits_value_after 10 n (xs ++ ys) ≡ digits_value_after 10 (digits_value_after 10 n xs) ys
value-append n [] ys = refl
value-append n (d ∷ xs) ys = value-append (n * 10 + digit_value d) xs ys

pub near-append : (n : ℕ) (xs ys : List ℕ) → near_after (near_after n xs) ys ≡ near_after n (xs ++ ys)
near-append n xs ys = after-min (digits_value_after 10 n xs) ys ∙ ap near_digits (sym (value-append n xs ys))

and-assoc : (a b c : Bool) → (a && (b && c)) ≡ ((a && b) && c)
and-assoc true b c = refl
and-assoc false b c = refl

pub digits-append : (xs ys : List ℕ) → all_ascii_digits (xs ++ ys) ≡ (all_ascii_digits xs && all_ascii_digits ys)
digits-append [] ys = refl
digits-append (d ∷ xs) ys = rw (digits-append xs ys) (and-assoc (is_ascii_digit d) (all_ascii_digits xs) (all_ascii_digits ys))
