-- What a word of digits is as the number of a trial. Its value is what it is parsed to, which fails where 64 bits do not hold it.
use Rattle.std.proofs.Common.{◌≡◌, ℕ, ◌<◌, ◌≤◌, ◌^◌, true, false, List, [], ◌∷◌, length, refl, ap, ◌∙◌, Option, None, Some, Ok, Err, arith}
use Rattle.std.specs.Prelude.{◌==◌, ◌&&◌, nat_lt, nat_le, Result}
use Rattle.std.specs.Char.{is_ascii_digit}
use Rattle.std.specs.List.{list_all}
use Rattle.std.specs.Result.{result_ok, OkIff}
use Rattle.std.specs.Str.{all_ascii_digits}
use Rattle.std.specs.Str.Parse.{ParsesUnsigned, digits_value}
use Rattle.std.proofs.lemmas.Bool.Decides.{nat_tests}
use Rattle.std.proofs.lemmas.Str.Parse.{IsNumeralModel, numerals_by_value, tells_all_ascii_digits, parse_digits}
use Rattle.model_text.specs.NumberWords.{digits_of}
use Rattle.mono_top.specs.TrialNumber.{digits_most, fitting, trial_number}

digits-all : (word : List ℕ) → all_ascii_digits word ≡ list_all is_ascii_digit word
digits-all [] = refl
digits-all (d ∷ word) = ap (λ b. is_ascii_digit d && b) (digits-all word)

pub too_long : (word : List ℕ) → digits_most < length word → trial_number word ≡ None
too_long word long =
    let past : nat_le (length word) digits_most ≡ false = grind (arith, nat_tests) in
    rw past refl

no_number : (word : List ℕ) → all_ascii_digits word ≡ false → fitting (digits_of word) ≡ None
no_number word other =
    elim (length word == 0) as (λ b. (length word == 0) ≡ b → ◌≡◌ {A = Option ℕ} (fitting (digits_of word)) None)
    [ true ↦ λ empty. rw empty refl | false ↦ λ there. rw (there, other) refl ] refl

pub no_digits : (word : List ℕ) → list_all is_ascii_digit word ≡ false → trial_number word ≡ None
no_digits word other =
    let none : fitting (digits_of word) ≡ None = no_number word (digits-all word ∙ other) in
    elim (nat_le (length word) digits_most) as (λ b. nat_le (length word) digits_most ≡ b → trial_number word ≡ None)
    [ true ↦ λ short. rw short none | false ↦ λ long. rw long refl ] refl

pub short_enough : (word : List ℕ) → length word ≤ digits_most → fitting (digits_of word) ≡ trial_number word
short_enough word short =
    let within : nat_le (length word) digits_most ≡ true = grind (arith, nat_tests) in
    rw within refl

own : IsNumeralModel (λ ds. all_ascii_digits ds ≡ true) (digits_value 10)
own = numerals_by_value (λ ds. all_ascii_digits ds ≡ true) tells_all_ascii_digits

is_there : (n : ℕ) → 0 < n → (n == 0) ≡ false
is_there n some = grind (arith, nat_tests)

is_less : (m n : ℕ) → m < n → nat_lt m n ≡ true
is_less m n less = grind (arith, nat_tests)

less_if : (m n : ℕ) → nat_lt m n ≡ true → m < n
less_if m n less = grind (arith, nat_tests)

not_less : (m n : ℕ) → ¬ (m < n) → nat_lt m n ≡ false
not_less m n other = elim (nat_lt m n) as (λ b. nat_lt m n ≡ b → b ≡ false) [ true ↦ λ less. absurd (other (less_if m n less)) | false ↦ λ e. refl ] refl

fits_ok : (word : List ℕ) (n : ℕ) → 0 < length word → digits_value 10 word < 2 ^ 64 → n ≡ digits_value 10 word → all_ascii_digits word ≡ true → Some n ≡ fitting (digits_of word)
fits_ok word n some small is all =
    rw (is_there (length word) some, all, is_less (digits_value 10 word) (2 ^ 64) small) (ap Some is)

some_if : (n : ℕ) → (n == 0) ≡ false → 0 < n
some_if n there = grind (arith, nat_tests)

fits_none : (word : List ℕ) → (0 < length word → digits_value 10 word < 2 ^ 64 → ⊥) → all_ascii_digits word ≡ true → None ≡ fitting (digits_of word)
fits_none word large all =
    elim (length word == 0) as (λ b. (length word == 0) ≡ b → ◌≡◌ {A = Option ℕ} None (fitting (digits_of word))) [
      | true ↦ λ empty. rw empty refl
      | false ↦ λ there. rw (there, all, not_less (digits_value 10 word) (2 ^ 64) (large (some_if (length word) there))) refl
    ] refl

fits : {E : Type 0} (word : List ℕ) (r : Result ℕ E) → OkIff r ((0 < length word) × (digits_value 10 word < 2 ^ 64)) (digits_value 10 word)
    → all_ascii_digits word ≡ true → result_ok r ≡ fitting (digits_of word)
fits word (Ok n) is all = fits_ok word n is.0.0 is.0.1 is.1 all
fits word (Err e) is all = fits_none word (λ some small. is (some, small)) all

pub parsed : {E : Type 0} (word : List ℕ) (r : Result ℕ E) → ParsesUnsigned 64 10 word r → list_all is_ascii_digit word ≡ true → result_ok r ≡ fitting (digits_of word)
parsed word r parses all =
    let digits = digits-all word ∙ all in
    fits word r (parse_digits own 64 word r parses digits) digits
