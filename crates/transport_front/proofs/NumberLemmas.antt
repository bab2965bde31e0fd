-- Words that are numbers, read one after the other; and one number alone. What is kept of a number beyond the limit shows that it is.
use Rattle.std.specs.Prelude.{◌≡◌, ℕ, zero, suc, ◌+◌, ◌<◌, min, ℤ, pos, negsuc, neg_ℤ, ◌<ℤ◌, int_lt, Bool, true, false, ◌||◌, is_none, unwrap_or, if◌then◌else◌, Option, None, Some, List, [], ◌∷◌, ◌++◌, length, drop, map, refl}
use Rattle.std.proofs.Common.{arith, get_or, sym, ◌∙◌, ap, subst, append_assoc}
use Rattle.std.specs.Borrow.{Bor}
use Rattle.std.specs.List.{list_any}
use Rattle.std.specs.Option.{option_map}
use Rattle.std.proofs.lemmas.List.{drop_more}
use Rattle.std.proofs.lemmas.Int.{ints}
use Rattle.theory.specs.Limits.{number_most, IsWithin}
use Rattle.theory.proofs.Shape.{less_in}
use Rattle.model_text.specs.LineParts.{texts}
use Rattle.model_text.specs.ModelText.{is_over}
use Rattle.model_text.specs.NearNumbers.{near_number}
use Rattle.model_text.specs.NumberWords.{number_of}
use Rattle.model_text.proofs.EntryLemmas.{near-over, near-exact}
use Rattle.model_text.proofs.ListTests.{neither, false-unless}
use Rattle.transport_front.specs.declared.fault.TableWord.{TableWord}
use Rattle.transport_front.specs.declared.fault.TableWord.TheVariants.{Number, Limit}
use Rattle.transport_front.specs.TableText.{first_fault, lacks_number, numbers, demand_tests}

abbrev pub lacks : Bor (List ℕ) → Bool
lacks word = is_none (number_of word.now)

abbrev pub near_of : Bor (List ℕ) → ℤ
near_of word = near_number (unwrap_or (number_of word.now) (pos 0))

module _ (words : List (Bor (List ℕ))) (k : ℕ) (d : Bor (List ℕ)) (below : k < length words) where
  pub test-passed : (z : ℤ) → option_map near_number (number_of (get_or words k d).now) ≡ Some z
      → list_any lacks (drop (k + 1) words) ≡ list_any lacks (drop k words)
  test-passed z is = sym (ap (list_any lacks) (drop_more words k d below) ∙ some-by (number_of (get_or words k d).now) is)
    where
      some-by : (found : Option ℤ) → option_map near_number found ≡ Some z
          → (is_none found || list_any lacks (drop (k + 1) words)) ≡ list_any lacks (drop (k + 1) words)
      some-by None is = cc
      some-by (Some x) is = refl

  pub number-added : (listed : List ℤ) (z : ℤ) → option_map near_number (number_of (get_or words k d).now) ≡ Some z
      → (listed ++ z ∷ []) ++ map near_of (drop (k + 1) words) ≡ listed ++ map near_of (drop k words)
  number-added listed z is =
      append_assoc listed (z ∷ []) (map near_of (drop (k + 1) words))
      ∙ ap (λ x. listed ++ x ∷ map near_of (drop (k + 1) words)) (sym (number-by (number_of (get_or words k d).now) is))
      ∙ ap (λ rest. listed ++ map near_of rest) (sym (drop_more words k d below))
    where
      number-by : (found : Option ℤ) → option_map near_number found ≡ Some z → near_number (unwrap_or found (pos 0)) ≡ z
      number-by None is = cc
      number-by (Some x) is = cc

  pub test-failed : option_map near_number (number_of (get_or words k d).now) ≡ None → list_any lacks (drop k words) ≡ true
  test-failed none = ap (list_any lacks) (drop_more words k d below) ∙ none-by (number_of (get_or words k d).now) none
    where
      none-by : (found : Option ℤ) → ◌≡◌ {A = Option ℤ} (option_map near_number found) None → (is_none found || list_any lacks (drop (k + 1) words)) ≡ true
      none-by None none = refl
      none-by (Some x) none = cc

lacks-texts : (words : List (Bor (List ℕ))) → list_any lacks words ≡ lacks_number (texts words)
lacks-texts [] = refl
lacks-texts (word ∷ words) = ap (λ b. lacks word || b) (lacks-texts words)

pub near-texts : (words : List (Bor (List ℕ))) → map near_of words ≡ map near_number (numbers (texts words))
near-texts [] = refl
near-texts (word ∷ words) = ap (λ rest. near_of word ∷ rest) (near-texts words)

pub list-fails : (words : List (Bor (List ℕ))) → list_any lacks words ≡ true → first_fault ((lacks_number (texts words), Number) ∷ []) ≡ Some Number
list-fails words fails = rw (sym (lacks-texts words) ∙ fails) refl

pub list-passes : (words : List (Bor (List ℕ))) → list_any lacks words ≡ false → first_fault ((lacks_number (texts words), Number) ∷ []) ≡ None
list-passes words passes = rw (sym (lacks-texts words) ∙ passes) refl

-- ---- numbers beyond the limit

near-within : (z : ℤ) → IsWithin (number_most + 1) (near_number z)
near-within (pos n) = (omega (arith, ints), omega (arith, ints))
near-within (negsuc n) = (omega (arith, ints), omega (arith, ints))

-- what is kept of a number is a machine number
pub kept-within : (found : Option ℤ) (z : ℤ) → option_map near_number found ≡ Some z → IsWithin (number_most + 1) z
kept-within None z is = cc
kept-within (Some x) z is = let same : near_number x ≡ z = cc in subst (IsWithin (number_most + 1)) same (near-within x)

pub near-any : (listed : List ℤ) → list_any is_over (map near_number listed) ≡ list_any is_over listed
near-any [] = refl
near-any (z ∷ listed) = rw (near-over z, near-any listed) refl

pub near-all : (listed : List ℤ) → list_any is_over listed ≡ false → map near_number listed ≡ listed
near-all [] within = refl
near-all (z ∷ listed) within =
    let two = neither (is_over z) (list_any is_over listed) within in
    ap (λ x. x ∷ map near_number listed) (near-exact z two.0) ∙ ap (λ rest. z ∷ rest) (near-all listed two.1)

not-below : (m : ℕ) → int_lt (pos m) (pos 0) ≡ false
not-below m = false-unless (int_lt (pos m) (pos 0)) (λ below. omega (arith, ints))

pub is_below_zero : (z : ℤ) → z <ℤ pos 0 → int_lt z (pos 0) ≡ true
is_below_zero z below = less_in z (pos 0) below

near-sign : (z : ℤ) → int_lt (near_number z) (pos 0) ≡ int_lt z (pos 0)
near-sign (pos n) = not-below (min n (number_most + 1)) ∙ sym (not-below n)
near-sign (negsuc n) =
    let more : min (n + 1) (number_most + 1) ≡ suc (min n number_most) = omega arith in
    ap (λ m. int_lt (neg_ℤ (pos m)) (pos 0)) more

-- ---- one number

-- what a demand's tests say, by the number that is kept
pub demand_told : (words : List (Bor (List ℕ))) (d : Bor (List ℕ)) (z : ℤ) → length words ≡ 1 → option_map near_number (number_of (get_or words 0 d).now) ≡ Some z
    → first_fault (demand_tests (texts words)) ≡ (if is_over z || int_lt z (pos 0) then Some Limit else None)
demand_told [] d z one is = absurd (omega arith)
demand_told (word ∷ other ∷ words) d z one is = absurd (omega arith)
demand_told (word ∷ []) d z one is = by (number_of word.now) refl is
  where
    by : (found : Option ℤ) → number_of word.now ≡ found → option_map near_number found ≡ Some z
        → first_fault (demand_tests (texts (word ∷ []))) ≡ (if is_over z || int_lt z (pos 0) then Some Limit else None)
    by None there is = cc
    by (Some x) there is =
        let same : near_number x ≡ z = cc in
        let over : is_over z ≡ is_over x = ap is_over (sym same) ∙ near-over x in
        let sign : int_lt z (pos 0) ≡ int_lt x (pos 0) = ap (λ y. int_lt y (pos 0)) (sym same) ∙ near-sign x in
        rw (there, over, sign) refl
