-- A number with a point, read in three parts: the digits before the point, those behind it, and zeros for the decimals that
-- aren't written.
use Rattle.std.specs.Prelude.{◌≡◌, ℕ, zero, suc, ◌+◌, ◌-◌, ◌≤◌, ◌==◌, nat_lt, nat_le, Bool, true, false, not, ◌&&◌, ◌||◌, if◌then◌else◌, Option, None, Some, List, [], ◌∷◌, ◌++◌, length, replicate, refl}
use Rattle.std.specs.List.{position_or_len}
use Rattle.std.specs.Option.{option_map}
use Rattle.std.specs.Str.{all_ascii_digits}
use Rattle.std.specs.Str.Parse.{digits_value_after}
use Rattle.std.proofs.Common.{arith, sym, ◌∙◌, ap, length-take, length-drop}
use Rattle.std.proofs.lemmas.Bool.Decides.{nat_tests}
use Rattle.model_text.specs.NearNumbers.{near_digits, near_after, near_units}
use Rattle.model_text.specs.NumberWords.{units_of, before_point, behind_point, ends_wrong, digits_of}
use Rattle.model_text.proofs.NearLemmas.{near-append, digits-append}

pub zeros-digits : (count : ℕ) → all_ascii_digits (replicate count 48) ≡ true
zeros-digits zero = refl
zeros-digits (suc count) = zeros-digits count

some-front : (front rest : List ℕ) → (length front == 0) ≡ false → (length (front ++ rest) == 0) ≡ false
some-front [] rest some = cc
some-front (b ∷ front) rest some = grind (arith, nat_tests)

units-of-digits : (ds : List ℕ) → (length ds == 0) ≡ false → option_map near_digits (digits_of ds) ≡ near_units ds
units-of-digits ds some = rw some (by (all_ascii_digits ds))
  where
    by : (all : Bool) → option_map near_digits (if all then Some (digits_value_after 10 0 ds) else None) ≡ (if all then Some (near_after 0 ds) else None)
    by true = refl
    by false = refl

module _ (decimals : ℕ) (word whole further : List ℕ) (whole-is : whole ≡ before_point word) (further-is : further ≡ behind_point word) where
  pub no-front : length whole ≡ 0 → option_map near_digits (units_of decimals word) ≡ None
  unfolding units_of
  no-front none =
      let test : (length (before_point word) == 0) ≡ true = rw (← whole-is) (grind (arith, nat_tests)) in
      rw test refl

  pub wrong-end : ends_wrong decimals (length whole) (length further) (length word) ≡ true → option_map near_digits (units_of decimals word) ≡ None
  unfolding units_of
  wrong-end wrong =
      let test : ends_wrong decimals (length (before_point word)) (length (behind_point word)) (length word) ≡ true = rw (← whole-is, ← further-is) wrong in
      rw test (by (length (before_point word) == 0))
    where
      by : (none : Bool) → option_map near_digits (if none || true then None else digits_of (before_point word ++ behind_point word ++ replicate (decimals - length (behind_point word)) 48)) ≡ None
      by true = refl
      by false = refl

  pub few-further : ends_wrong decimals (length whole) (length further) (length word) ≡ false → length further ≤ decimals
  few-further right = by (nat_lt (length whole) (length word)) refl
    where
      by : (there : Bool) → nat_lt (length whole) (length word) ≡ there → length further ≤ decimals
      by true there = let ends : not (nat_le 1 (length further) && nat_le (length further) decimals) ≡ false = rw there at right in grind (arith, nat_tests)
      by false none =
          let first = position_or_len (λ b. b == 46) word in
          let before : length whole ≡ length (before_point word) = ap length whole-is in
          let behind : length further ≡ length (behind_point word) = ap length further-is in
          grind (arith, nat_tests, length-take first word, length-drop (first + 1) word)

  pub parts-read : (length whole == 0) ≡ false → ends_wrong decimals (length whole) (length further) (length word) ≡ false
      → option_map near_digits (units_of decimals word) ≡ near_units (whole ++ further ++ replicate (decimals - length further) 48)
  unfolding units_of
  parts-read some right =
      rw (← whole-is, ← further-is, some, right) (units-of-digits (whole ++ further ++ replicate (decimals - length further) 48) (some-front (whole ++ further) (replicate (decimals - length further) 48) (some-front whole further some)))

-- the parts in turn
module _ (whole further zeros : List ℕ) where
  pub whole-fails : all_ascii_digits whole ≡ false → near_units (whole ++ further ++ zeros) ≡ None
  whole-fails fails = rw (digits-append (whole ++ further) zeros, digits-append whole further, fails) refl

  pub further-fails : all_ascii_digits whole ≡ true → all_ascii_digits further ≡ false → near_units (whole ++ further ++ zeros) ≡ None
  further-fails told fails = rw (digits-append (whole ++ further) zeros, digits-append whole further, told, fails) refl

  pub all-told : all_ascii_digits whole ≡ true → all_ascii_digits further ≡ true
      → near_units (whole ++ further ++ zeros) ≡ (if all_ascii_digits zeros then Some (near_after (near_after (near_after 0 whole) further) zeros) else None)
  all-told told also =
      rw (digits-append (whole ++ further) zeros, digits-append whole further, told, also)
      (ap (λ value. if all_ascii_digits zeros then Some value else None)
      (sym (near-append 0 (whole ++ further) zeros) ∙ ap (λ n. near_after n zeros) (sym (near-append 0 whole further))))

-- what one part tells
pub part-failed : (digits : List ℕ) (before : ℕ) (answer : Option ℕ) → answer ≡ (if all_ascii_digits digits then Some (near_after before digits) else None)
    → answer ≡ None → all_ascii_digits digits ≡ false
part-failed digits before answer is none = by (all_ascii_digits digits) refl (sym is ∙ none)
  where
    by : (all : Bool) → all_ascii_digits digits ≡ all → ◌≡◌ {A = Option ℕ} (if all then Some (near_after before digits) else None) None → all_ascii_digits digits ≡ false
    by true told is-none = cc
    by false told is-none = told

pub part-told : (digits : List ℕ) (before value : ℕ) (answer : Option ℕ) → answer ≡ (if all_ascii_digits digits then Some (near_after before digits) else None)
    → answer ≡ Some value → (all_ascii_digits digits ≡ true) × (value ≡ near_after before digits)
part-told digits before value answer is some = by (all_ascii_digits digits) refl (sym is ∙ some)
  where
    by : (all : Bool) → all_ascii_digits digits ≡ all → ◌≡◌ {A = Option ℕ} (if all then Some (near_after before digits) else None) (Some value)
        → (all_ascii_digits digits ≡ true) × (value ≡ near_after before digits)
    by true told is-some = (told, cc)
    by false told is-some = cc
