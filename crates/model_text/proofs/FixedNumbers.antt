-- A printed number of units reads back. Its digits, with zeros in front where they are few, stand before and behind a
-- point; without the point they are the digits of the number, and no zero is missing behind them.
use Rattle.std.specs.Prelude.{◌≡◌, ℕ, zero, suc, ◌+◌, ◌-◌, ◌^◌, ◌<◌, ◌≤◌, ◌==◌, nat_lt, nat_le, ℤ, pos, negsuc, neg_ℤ, Bool, true, false, ◌&&◌, Some, unsigned_abs, List, [], ◌∷◌, ◌++◌, length, replicate, take, drop, refl}
use Rattle.std.specs.Char.{is_ascii_digit, digit_value}
use Rattle.std.specs.Fmt.{decimal}
use Rattle.std.specs.List.{list_all, position_or_len}
use Rattle.std.specs.Option.{option_map}
use Rattle.std.specs.Str.{all_ascii_digits, bytes_eq}
use Rattle.std.specs.Str.Parse.{AllDigits, digits_value_after}
use Rattle.std.proofs.Common.{arith, sym, ◌∙◌, ap, subst, get_or, append-nil, length-append, length-take, length-drop}
use Rattle.std.proofs.Math.Seq.{take-append_seam, drop-append-add}
use Rattle.std.proofs.lemmas.Bool.Decides.{nat_tests}
use Rattle.std.proofs.lemmas.Fmt.{decimal_is_IsNumeral_wide}
use Rattle.std.proofs.lemmas.Int.{ints}
use Rattle.std.proofs.lemmas.List.{length-replicate, take_all, drop_all, take-append-drop, take-replicate}
use Rattle.std.proofs.lemmas.List.Folds.{list_all-append}
use Rattle.theory.specs.Limits.{IsWithin}
use Rattle.model_text.specs.NumberWords.{digits_of, units_of, fixed_of, ends_wrong, before_point, behind_point}
use Rattle.model_text.specs.Printed.{filled, pointed, printed_units, printed_fixed}
use Rattle.model_text.proofs.NearLemmas.{value-append, digits-append}
use Rattle.model_text.proofs.SoundLines.{both}
use Rattle.model_text.proofs.UnitLemmas.{zeros-digits}

abbrev pub is_plain : ℕ → Bool
is_plain b = nat_lt 35 b && nat_lt b 128

pub all-so : (p q : ℕ → Bool) → ((b : ℕ) → p b ≡ true → q b ≡ true) → (bs : List ℕ) → list_all p bs ≡ true → list_all q bs ≡ true
all-so p q each [] all = refl
all-so p q each (b ∷ bs) all =
    let two = both (p b) (list_all p bs) all in
    rw (each b two.0, all-so p q each bs two.1) refl

-- ---- digits

is-digit : (d : ℕ) → digit_value d < 10 → is_ascii_digit d ≡ true
is-digit d small = grind (arith, nat_tests)

digits-are : (ds : List ℕ) → AllDigits 10 ds → all_ascii_digits ds ≡ true
digits-are [] all = refl
digits-are (d ∷ ds) all = rw (is-digit d all.0, digits-are ds all.1) refl

digits-all : (ds : List ℕ) → all_ascii_digits ds ≡ true → list_all is_ascii_digit ds ≡ true
digits-all [] all = refl
digits-all (d ∷ ds) all = let two = both (is_ascii_digit d) (all_ascii_digits ds) all in rw (two.0, digits-all ds two.1) refl

pub digits-plain : (ds : List ℕ) → all_ascii_digits ds ≡ true → list_all is_plain ds ≡ true
digits-plain ds all = all-so is_ascii_digit is_plain (λ b digit. grind (arith, nat_tests)) ds (digits-all ds all)

-- digits that write a number
pub record IsDigits (n : ℕ) (ds : List ℕ) : Type 0 where
  pub digits : all_ascii_digits ds ≡ true
  pub some : 0 < length ds
  pub value : digits_value_after 10 0 ds ≡ n

pub decimal-is : (n : ℕ) → n < 10 ^ 64 → IsDigits n (decimal n)
decimal-is n small =
    let is = decimal_is_IsNumeral_wide n small in
    record { digits = digits-are (decimal n) is.0.1; some = is.0.0; value = is.1 }

zeros-value : (count : ℕ) → digits_value_after 10 0 (replicate count 48) ≡ 0
zeros-value zero = refl
zeros-value (suc count) = zeros-value count

pub filled-is : (count n : ℕ) (ds : List ℕ) → IsDigits n ds → IsDigits n (filled count ds)
filled-is count n ds is = record {
  digits = digits-append (replicate (count - length ds) 48) ds ∙ rw (zeros-digits (count - length ds), is.digits) refl;
  some = omega (arith, length-append (replicate (count - length ds) 48) ds, is.some);
  value =
      value-append 0 (replicate (count - length ds) 48) ds
      ∙ ap (λ m. digits_value_after 10 m ds) (zeros-value (count - length ds)) ∙ is.value;
}

pub filled-long : (count : ℕ) (ds : List ℕ) → count ≤ length (filled count ds)
filled-long count ds = omega (arith, length-append (replicate (count - length ds) 48) ds, length-replicate {A = ℕ} (count - length ds) 48)

-- ---- the point

point-at : (whole rest : List ℕ) → all_ascii_digits whole ≡ true → position_or_len (λ b. b == 46) (whole ++ 46 ∷ rest) ≡ length whole
point-at [] rest all = refl
point-at (d ∷ whole) rest all =
    let two = both (is_ascii_digit d) (all_ascii_digits whole) all in
    let other : (d == 46) ≡ false = let is = two.0 in grind (arith, nat_tests) in
    rw (other, point-at whole rest two.1) (omega arith)

no-point : (ds : List ℕ) → all_ascii_digits ds ≡ true → position_or_len (λ b. b == 46) ds ≡ length ds
no-point [] all = refl
no-point (d ∷ ds) all =
    let two = both (is_ascii_digit d) (all_ascii_digits ds) all in
    let other : (d == 46) ≡ false = let is = two.0 in grind (arith, nat_tests) in
    rw (other, no-point ds two.1) (omega arith)

and-no : (b : Bool) → (b && false) ≡ false
and-no true = refl
and-no false = refl

digits-told : (n : ℕ) (ds : List ℕ) → IsDigits n ds → digits_of ds ≡ Some n
digits-told n ds is = let some : (length ds == 0) ≡ false = let there = is.some in grind (arith, nat_tests) in rw (some, is.digits) (ap Some is.value)

plain-read : (n : ℕ) (ds : List ℕ) → IsDigits n ds → units_of 0 ds ≡ Some n
unfolding units_of
plain-read n ds is =
    let before : before_point ds ≡ ds = rw (no-point ds is.digits) (take_all (length ds) ds (omega arith)) in
    let behind : behind_point ds ≡ [] = rw (no-point ds is.digits) (drop_all (length ds + 1) ds (omega arith)) in
    let some : (length ds == 0) ≡ false = let there = is.some in grind (arith, nat_tests) in
    let right : ends_wrong 0 (length ds) 0 (length ds) ≡ false = let same : nat_lt (length ds) (length ds) ≡ false = grind (arith, nat_tests) in rw same refl in
    let none : ds ++ [] ++ [] ≡ ds = append-nil (ds ++ []) ∙ append-nil ds in
    rw (before, behind, some, right, none) (digits-told n ds is)

module _ (n decimals : ℕ) (whole further : List ℕ) (is : IsDigits n (whole ++ further)) (some : 0 < length whole) (more : 0 < decimals) (count : length further ≡ decimals) where
  pub parts : (all_ascii_digits whole ≡ true) × (all_ascii_digits further ≡ true)
  parts = both (all_ascii_digits whole) (all_ascii_digits further) (sym (digits-append whole further) ∙ is.digits)

  pointed-read : units_of decimals (whole ++ 46 ∷ further) ≡ Some n
  unfolding units_of
  pointed-read =
      let at = point-at whole further parts.0 in
      let before : before_point (whole ++ 46 ∷ further) ≡ whole = rw at (take-append_seam whole (46 ∷ further)) in
      let behind : behind_point (whole ++ 46 ∷ further) ≡ further = rw at (drop-append-add whole (46 ∷ further) 1) in
      let there : (length whole == 0) ≡ false = grind (arith, nat_tests) in
      let least : nat_le 1 (length further) ≡ true = grind (arith, nat_tests) in
      let most : nat_le (length further) decimals ≡ true = grind (arith, nat_tests) in
      let right : ends_wrong decimals (length whole) (length further) (length (whole ++ 46 ∷ further)) ≡ false =
      rw (least, most) (and-no (nat_lt (length whole) (length (whole ++ 46 ∷ further)))) in
      let full : decimals - length further ≡ 0 = omega arith in
      let none : whole ++ further ++ replicate (decimals - length further) 48 ≡ whole ++ further = rw full (append-nil (whole ++ further)) in
      rw (before, behind, there, right) (ap digits_of none ∙ digits-told n (whole ++ further) is)

  pointed-plain : list_all is_plain (whole ++ 46 ∷ further) ≡ true
  pointed-plain =
      list_all-append is_plain whole (46 ∷ further) ∙ rw (digits-plain whole parts.0, digits-plain further parts.1) refl

first-of : (whole rest : List ℕ) → all_ascii_digits whole ≡ true → 0 < length whole → is_ascii_digit (get_or (whole ++ rest) 0 0) ≡ true
first-of [] rest all some = absurd (omega arith)
first-of (d ∷ whole) rest all some = (both (is_ascii_digit d) (all_ascii_digits whole) all).0

-- ---- printed units

-- a word that writes so many units, and that a line keeps whole
pub record IsUnitsWord (decimals n : ℕ) (word : List ℕ) : Type 0 where
  pub some : 0 < length word
  pub first : is_ascii_digit (get_or word 0 0) ≡ true
  pub plain : list_all is_plain word ≡ true
  pub value : units_of decimals word ≡ Some n

pub units-word : (decimals n : ℕ) → n < 10 ^ 64 → IsUnitsWord decimals n (printed_units decimals n)
units-word zero n small =
    let is = decimal-is n small in
    record {
      some = is.some;
      first = rw (append-nil (decimal n)) at (first-of (decimal n) [] is.digits is.some);
      plain = digits-plain (decimal n) is.digits;
      value = plain-read n (decimal n) is;
    }
units-word (suc k) n small =
    let digits = filled (suc k + 1) (decimal n) in
    let is = filled-is (suc k + 1) n (decimal n) (decimal-is n small) in
    let long = filled-long (suc k + 1) (decimal n) in
    let place = length digits - suc k in
    let whole = take place digits in
    let further = drop place digits in
    let all : whole ++ further ≡ digits = take-append-drop place digits in
    let parts_are : IsDigits n (whole ++ further) = subst (IsDigits n) (sym all) is in
    let there : 0 < length whole = omega (arith, length-take place digits) in
    let count : length further ≡ suc k = omega (arith, length-drop place digits) in
    record {
      some = omega (arith, length-append whole (46 ∷ further));
      first = first-of whole (46 ∷ further) (parts n (suc k) whole further parts_are there (omega arith) count).0 there;
      plain = pointed-plain n (suc k) whole further parts_are there (omega arith) count;
      value = pointed-read n (suc k) whole further parts_are there (omega arith) count;
    }

-- ---- printed numbers

units-number : (decimals n : ℕ) (word : List ℕ) → IsUnitsWord decimals n word → fixed_of decimals word ≡ Some (pos n)
units-number decimals n [] is = absurd (omega (arith, is.some))
units-number decimals n (d ∷ ds) is =
    let first = is.first in
    let no_minus : (d == 45) ≡ false = grind (arith, nat_tests) in
    let no_plus : (d == 43) ≡ false = grind (arith, nat_tests) in
    rw (no_minus, no_plus) (ap (option_map pos) is.value)

pub small-by : (most : ℕ) (z : ℤ) → IsWithin most z → unsigned_abs z ≤ most
small-by most (pos n) within = let low = within.0 in let high = within.1 in omega (arith, ints)
small-by most (negsuc n) within = let low = within.0 in let high = within.1 in omega (arith, ints)

-- a fixed number that is printed reads back, at any count of decimals
pub fixed-read : (decimals : ℕ) (z : ℤ) → unsigned_abs z < 10 ^ 64 → fixed_of decimals (printed_fixed decimals z) ≡ Some z
fixed-read decimals (pos n) small = units-number decimals n (printed_units decimals n) (units-word decimals n small)
fixed-read decimals (negsuc n) small = ap (option_map (λ m. neg_ℤ (pos m))) (units-word decimals (suc n) small).value

pub fixed-plain : (decimals : ℕ) (z : ℤ) → unsigned_abs z < 10 ^ 64
    → (list_all is_plain (printed_fixed decimals z) ≡ true) × (0 < length (printed_fixed decimals z))
fixed-plain decimals (pos n) small = let is = units-word decimals n small in (is.plain, is.some)
fixed-plain decimals (negsuc n) small = let is = units-word decimals (suc n) small in (is.plain, omega arith)

-- ---- how a printed number is put together

pub pointed-short : (decimals : ℕ) (ds : List ℕ) → length ds ≤ decimals → decimals ≤ 12
    → pointed decimals (filled (decimals + 1) ds) ≡ 48 ∷ 46 ∷ (take (decimals - length ds) (replicate 12 48) ++ ds)
pointed-short decimals ds short few =
    let count : decimals + 1 - length ds ≡ suc (decimals - length ds) = omega arith in
    let zeros : take {A = ℕ} (decimals - length ds) (replicate 12 48) ≡ replicate (decimals - length ds) 48 = take-replicate (decimals - length ds) 12 48 (omega arith) in
    let all : filled (decimals + 1) ds ≡ 48 ∷ (replicate (decimals - length ds) 48 ++ ds) = rw count refl in
    let place : length (48 ∷ (replicate (decimals - length ds) 48 ++ ds)) - decimals ≡ 1 =
    omega (arith, length-append (replicate (decimals - length ds) 48) ds, length-replicate {A = ℕ} (decimals - length ds) 48) in
    rw (zeros, all, place) refl

pub pointed-long : (decimals : ℕ) (ds : List ℕ) → decimals < length ds
    → pointed decimals (filled (decimals + 1) ds) ≡ take (length ds - decimals) ds ++ 46 ∷ drop (length ds - decimals) ds
pointed-long decimals ds long =
    let count : decimals + 1 - length ds ≡ 0 = omega arith in
    let all : filled (decimals + 1) ds ≡ ds = rw count refl in
    rw all refl

-- ---- words that begin otherwise

pub other-word : (decimals n : ℕ) (word : List ℕ) → IsUnitsWord decimals n word → (b : ℕ) (bs : List ℕ) → is_ascii_digit b ≡ false → bytes_eq word (b ∷ bs) ≡ false
other-word decimals n [] is b bs apart = refl
other-word decimals n (d ∷ ds) is b bs other =
    let first = is.first in
    let differ : (d == b) ≡ false = grind (arith, nat_tests) in
    rw differ refl
