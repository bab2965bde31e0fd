-- The digits of a printed number, read from the front, wherever the point is.
use Rattle.std.proofs.Common.{◌≡◌, ◌≢◌, ℕ, zero, suc, ◌+◌, ◌-◌, ◌*◌, ◌^◌, ◌<◌, ◌≤◌, ◌==◌, Bool, true, false, not, ◌||◌, List, [], ◌∷◌, ◌++◌, length, get_or, take, drop, to_z, of_z, refl, sym, ap, subst, ◌∙◌, arith, lit≤, length-take, length-drop}
use Rattle.std.specs.Char.{digit_value, is_ascii_digit}
use Rattle.std.specs.Prelude.{ℤ, pos, negsuc, ◌-ℤ◌}
use Rattle.std.specs.Int.{w64, w128}
use Rattle.std.specs.Fmt.{decimal}
use Rattle.std.specs.List.{filter, list_all}
use Rattle.std.specs.Str.{all_ascii_digits}
use Rattle.std.specs.Str.Parse.{digits_value}
use Rattle.std.proofs.Math.Seq.{take-append_seam}
use Rattle.std.proofs.lemmas.Bool.Decides.{nat_tests}
use Rattle.std.proofs.lemmas.Bool.{both_ways, ne_eqb}
use Rattle.std.proofs.lemmas.Grind.{take_at_read}
use Rattle.std.proofs.lemmas.Int.Digits.{digits_value_push}
use Rattle.std.proofs.lemmas.Int.{ints}
use Rattle.std.proofs.lemmas.List.{take_all, take_rest, take-append-drop}
use Rattle.std.proofs.lemmas.List.Folds.{list_all-append}
use Rattle.std.proofs.lemmas.Str.Parse.{digits_value-take-le}
use Rattle.theory.specs.Limits.{IsWithin, flow_most}
use Rattle.model_text.specs.Printed.{printed_fixed, printed_units, filled}
use Rattle.model_text.proofs.FixedNumbers.{IsDigits, decimal-is, filled-is, filled-long, parts}
use Rattle.model_text.proofs.SoundLines.{both, all-at}

digit_is : (d : ℕ) → is_ascii_digit d ≡ true → digit_value d ≡ d - 48
digit_is d is = grind arith

-- ---- without the point (46)

abbrev pub without_point : List ℕ → List ℕ
without_point word = filter (λ b. not (b == 46)) word

without-append : (xs ys : List ℕ) → without_point (xs ++ ys) ≡ without_point xs ++ without_point ys
without-append [] ys = refl
without-append (b ∷ xs) ys = by (b == 46) refl (without-append xs ys)
  where
    by : (p : Bool) → (b == 46) ≡ p → without_point (xs ++ ys) ≡ without_point xs ++ without_point ys
        → without_point ((b ∷ xs) ++ ys) ≡ without_point (b ∷ xs) ++ without_point ys
    by true is rest = rw is rest
    by false is rest = rw is (ap (λ l. b ∷ l) rest)

digits-kept : (ds : List ℕ) → all_ascii_digits ds ≡ true → without_point ds ≡ ds
digits-kept [] all = refl
digits-kept (d ∷ ds) all =
    let two = both (is_ascii_digit d) (all_ascii_digits ds) all in
    let other : (d == 46) ≡ false = let is = two.0 in grind (arith, nat_tests) in
    rw other (ap (λ l. d ∷ l) (digits-kept ds two.1))

abbrev is_part : ℕ → Bool
is_part b = is_ascii_digit b || b == 46

digits-parts : (ds : List ℕ) → all_ascii_digits ds ≡ true → list_all is_part ds ≡ true
digits-parts [] all = refl
digits-parts (d ∷ ds) all = let two = both (is_ascii_digit d) (all_ascii_digits ds) all in rw (two.0, digits-parts ds two.1) refl

-- the digits of a printed number are those of its units
record AreUnits (n : ℕ) (word : List ℕ) : Type 0 where
  digits : IsDigits n (without_point word)
  each : list_all is_part word ≡ true

units-are : (decimals n : ℕ) → n < 10 ^ 64 → AreUnits n (printed_units decimals n)
units-are zero n small =
    let is = decimal-is n small in
    record { digits = subst (IsDigits n) (sym (digits-kept (decimal n) is.digits)) is; each = digits-parts (decimal n) is.digits }
units-are (suc k) n small =
    let digits = filled (suc k + 1) (decimal n) in
    let is = filled-is (suc k + 1) n (decimal n) (decimal-is n small) in
    let long = filled-long (suc k + 1) (decimal n) in
    let place = length digits - suc k in
    let whole = take place digits in
    let further = drop place digits in
    let all : whole ++ further ≡ digits = take-append-drop place digits in
    let parts_are : IsDigits n (whole ++ further) = subst (IsDigits n) (sym all) is in
    let there : 0 < length whole = omega (arith, length-take place digits) in
    let count : length further ≡ suc k = omega (arith, length-drop place digits) in
    let two = parts n (suc k) whole further parts_are there (omega arith) count in
    let kept : without_point (whole ++ 46 ∷ further) ≡ whole ++ further =
    without-append whole (46 ∷ further) ∙ ap (λ l. l ++ without_point further) (digits-kept whole two.0) ∙ ap (λ l. whole ++ l) (digits-kept further two.1) in
    record {
      digits = subst (IsDigits n) (sym kept) parts_are;
      each = list_all-append is_part whole (46 ∷ further) ∙ rw (digits-parts whole two.0, digits-parts further two.1) refl;
    }

digit-by : (b : ℕ) → is_part b ≡ true → b ≢ 46 → is_ascii_digit b ≡ true
digit-by b is other = let no : (b == 46) ≡ false = ne_eqb b 46 other in grind (arith, nat_tests)

module _ (digits : List ℕ) (decimals n : ℕ) (small : n < 10 ^ 64) (is : digits ≡ printed_units decimals n) where
  units : AreUnits n digits
  units = subst (AreUnits n) (sym is) (units-are decimals n small)

  pub digit_there : (i : ℕ) → i < length digits → get_or digits i 0 ≢ 46 → is_ascii_digit (get_or digits i 0) ≡ true
  digit_there i here other = digit-by (get_or digits i 0) (all-at is_part digits units.each i 0 here) other

  value_is : digits_value 10 (without_point digits) ≡ n
  value_is = units.digits.value

  pub front_below : (i : ℕ) → digits_value 10 (without_point (take i digits)) ≤ n
  front_below i =
      let least : 1 ≤ 10 = lit≤ tt in
      let front = without_point (take i digits) in
      let back = without_point (drop i digits) in
      let all : without_point digits ≡ front ++ back = ap without_point (sym (take-append-drop i digits)) ∙ without-append (take i digits) (drop i digits) in
      let cut : take (length front) (without_point digits) ≡ front = ap (take (length front)) all ∙ take-append_seam front back in
      let less = rw cut at (digits_value-take-le 10 (without_point digits) (length front) least) in
      omega (arith, less, value_is)

  pub whole_value : (i : ℕ) → length digits ≤ i → digits_value 10 (without_point (take i digits)) ≡ n
  whole_value i past = ap (λ l. digits_value 10 (without_point l)) (take_all i digits past) ∙ value_is

module _ (digits : List ℕ) (i value : ℕ) (here : i < length digits) (so_far : value ≡ digits_value 10 (without_point (take i digits))) where
  more-is : without_point (take (i + 1) digits) ≡ without_point (take i digits) ++ without_point (get_or digits i 0 ∷ [])
  more-is = ap without_point (take_at_read digits i 0 here).1 ∙ without-append (take i digits) (get_or digits i 0 ∷ [])

  pub one_more : get_or digits i 0 ≢ 46 → is_ascii_digit (get_or digits i 0) ≡ true
      → 10 * value + (get_or digits i 0 - 48) ≡ digits_value 10 (without_point (take (i + 1) digits))
  one_more other is =
      let no : (get_or digits i 0 == 46) ≡ false = ne_eqb (get_or digits i 0) 46 other in
      let kept : without_point (get_or digits i 0 ∷ []) ≡ get_or digits i 0 ∷ [] = rw no refl in
      let pushed = ap (digits_value 10) (more-is ∙ ap (λ l. without_point (take i digits) ++ l) kept) ∙ digits_value_push 10 (without_point (take i digits)) (get_or digits i 0) in
      omega (arith, pushed, so_far, digit_is (get_or digits i 0) is)

-- a word that begins with `-` (45) is the printed form of no number from 0 on, and of the negative one that its digits are
pub negative_of : (decimals : ℕ) (word : List ℕ) (z : ℤ) (most magnitude : ℕ) → most ≤ 10 ^ 30 → IsWithin most z → word ≡ printed_fixed decimals z
    → 1 ≤ length word → get_or word 0 0 ≡ 45
    → ((n : ℕ) → n ≤ most → take (length word - 1) (drop 1 word) ≡ printed_units decimals n → magnitude ≡ n)
    → to_z w128 (of_z w128 (pos 0 -ℤ to_z w128 magnitude)) ≡ z
negative_of decimals word (pos n) most magnitude small within is some minus found =
    let few : n < 10 ^ 64 = omega (arith, ints, within.1) in
    absurd (both_ways _ refl (ap is_ascii_digit (sym minus) ∙ digit_there word decimals n few is 0 some (λ point. omega (arith, minus, point))))
negative_of decimals word (negsuc n) most magnitude small within is some minus found =
    let few : suc n ≤ most = omega (arith, ints, within.0) in
    let same = found (suc n) few (take_rest word 1 ∙ ap (drop 1) is) in
    omega (arith, ints)

-- a number within the limits is the same in 128 bits and in 64
pub kept_wide : (most : ℕ) (z : ℤ) → most ≤ 10 ^ 30 → IsWithin most z → to_z w128 (of_z w128 z) ≡ z
kept_wide most z small within = omega (arith, ints, within.0, within.1)

pub kept : (z : ℤ) → IsWithin flow_most z → to_z w64 (of_z w64 (to_z w128 (of_z w128 z))) ≡ z
kept z within = omega (arith, ints, within.0, within.1)
