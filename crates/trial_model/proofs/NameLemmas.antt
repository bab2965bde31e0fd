-- The names of trial models: a letter and a number, no two the same.
use Rattle.std.proofs.Common.{◌≡◌, ◌≢◌, ℕ, ◌+◌, ◌<◌, ◌≤◌, true, List, [], ◌∷◌, length, refl, arith}
use Rattle.std.specs.Prelude.{nat_le}
use Rattle.std.specs.Char.{is_ascii_digit}
use Rattle.std.specs.Fmt.{decimal}
use Rattle.std.specs.List.{list_all}
use Rattle.std.specs.Str.{all_ascii_digits}
use Rattle.std.proofs.lemmas.Bool.Decides.{nat_tests}
use Rattle.std.proofs.lemmas.Fmt.{decimal_injective, length-decimal-le}
use Rattle.theory.specs.Limits.{name_most}
use Rattle.model_text.specs.Names.{is_name, is_name_byte}
use Rattle.model_text.proofs.FixedNumbers.{decimal-is}
use Rattle.model_text.proofs.SoundLines.{both}
use Rattle.trial_model.specs.Trial.{numbered}

digits-named : (ds : List ℕ) → all_ascii_digits ds ≡ true → list_all is_name_byte ds ≡ true
digits-named [] all = refl
digits-named (d ∷ ds) all =
    let two = both (is_ascii_digit d) (all_ascii_digits ds) all in
    let first : is_ascii_digit d ≡ true = two.0 in
    let named : is_name_byte d ≡ true = grind (arith, nat_tests) in
    rw (named, digits-named ds two.1) refl

pub numbered-named : (letter position : ℕ) → is_name_byte letter ≡ true → position < 1000 → is_name (numbered letter position) ≡ true
numbered-named letter position named small =
    let ds : List ℕ = decimal (position + 1) in
    let digits : list_all is_name_byte ds ≡ true = digits-named ds (decimal-is (position + 1) (omega arith)).digits in
    let few : length ds ≤ 4 = length-decimal-le 4 (position + 1) (omega arith) (omega arith) (omega arith) in
    let some : nat_le 1 (length (letter ∷ ds)) ≡ true = grind (arith, nat_tests) in
    let short : nat_le (length (letter ∷ ds)) name_most ≡ true = grind (arith, nat_tests) in
    rw (some, short, named, digits) refl

pub numbered-differ : (letter i k : ℕ) → i < 1000 → k < 1000 → i ≢ k → numbered letter i ≢ numbered letter k
numbered-differ letter i k first second differ same =
    let digits : decimal (i + 1) ≡ decimal (k + 1) = cc in
    let equal : i + 1 ≡ k + 1 = decimal_injective (i + 1) (k + 1) (omega arith) (omega arith) digits in
    differ (omega arith)
