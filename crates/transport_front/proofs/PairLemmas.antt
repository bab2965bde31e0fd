-- Pairs of numbers, two at a time. The pairs so far and those that the rest of the numbers make are all pairs; their sizes are right so far, and
-- add up to the total. So a size below 1, or one that brings the total over the limit, shows in the sizes of all pairs.
use Rattle.std.specs.Prelude.{◌≡◌, ℕ, zero, suc, ◌+◌, ◌<◌, ◌≤◌, ◌==◌, ◌/◌, ◌%◌, ◌≢◌, nat_lt, unwrap_or, if◌then◌else◌, map, Result, Ok, Err, ℤ, pos, negsuc, ◌+ℤ◌, ◌<ℤ◌, ◌≤ℤ◌, Bool, true, false, ◌||◌, None, Some, List, [], ◌∷◌, ◌++◌, length, drop, refl, slice_index_or}
use Rattle.std.proofs.Common.{arith, get_or, sym, ◌∙◌, ap, append_assoc}
use Rattle.std.specs.List.{list_any}
use Rattle.std.proofs.lemmas.Bool.Decides.{nat_tests}
use Rattle.std.proofs.lemmas.Int.{ints}
use Rattle.std.proofs.lemmas.List.{length-map}
use Rattle.std.proofs.lemmas.List.Folds.{list_any-append}
use Rattle.std.specs.Prelude.{unsigned_abs}
use Rattle.theory.proofs.Bounds.{within_abs}
use Rattle.theory.specs.Limits.{number_most, IsWithin}
use Rattle.theory.specs.Sums.{positive_part}
use Rattle.model_text.proofs.ListTests.{neither, none-at}
use Rattle.transport_front.specs.declared.pair.Pair.{Pair}
use Rattle.transport_front.specs.declared.fault.TableWord.{TableWord}
use Rattle.transport_front.specs.declared.fault.TableWord.TheVariants.{Number, Limit}
use Rattle.transport_front.specs.declared.fault.Refusal.{Refusal}
use Rattle.transport_front.specs.declared.fault.Refusal.TheVariants.{Fault, NoMemory}
use Rattle.transport_front.specs.Reading.{Passes}
use Rattle.model_text.specs.ModelText.{is_over}
use Rattle.model_text.specs.NearNumbers.{near_number}
use Rattle.model_text.specs.NumberWords.{number_of}
use Rattle.transport_front.specs.Table.{size_of, pairs_most}
use Rattle.transport_front.specs.TableText.{first_fault, pairs_of, are_wrong_sizes, are_beyond, lacks_number, numbers, is_odd_or_none, pair_tests}
use Rattle.transport_front.proofs.NumberLemmas.{near-any, near-all}

abbrev pub is_none_of : Pair → Bool
is_none_of p = p.size == 0

pub size_of-append : (ps rs : List Pair) → size_of (ps ++ rs) ≡ size_of ps + size_of rs
size_of-append [] rs = omega arith
size_of-append (p ∷ ps) rs = let e = size_of-append ps rs in omega arith

pub no_positive : (z : ℤ) → z <ℤ pos 1 → positive_part z ≡ 0
no_positive (pos n) below = omega (arith, ints)
no_positive (negsuc n) below = refl

pub all_positive : (z : ℤ) → pos 1 ≤ℤ z → pos (positive_part z) ≡ z
all_positive (pos n) some = refl
all_positive (negsuc n) some = absurd (omega (arith, ints))

pub next_pair : (listed : List ℤ) (d e : ℤ) → 2 ≤ length listed
    → pairs_of listed ≡ record { size = positive_part (get_or listed 0 d); price = get_or listed 1 e } ∷ pairs_of (drop 2 listed)
next_pair [] d e two = absurd (omega arith)
next_pair (size ∷ []) d e two = absurd (omega arith)
next_pair (size ∷ price ∷ rest) d e two = refl

pub no_pair : (listed : List ℤ) → length listed < 2 → pairs_of listed ≡ []
no_pair [] few = refl
no_pair (size ∷ []) few = refl
no_pair (size ∷ price ∷ rest) few = absurd (omega arith)

or-true : (b : Bool) → (b || true) ≡ true
or-true true = refl
or-true false = refl

none-wrong : (front back : List Pair) (p : Pair) → p.size ≡ 0 → are_wrong_sizes (front ++ p ∷ back) ≡ true
none-wrong front back p none =
    let here : (p.size == 0) ≡ true = grind (arith, nat_tests) in
    let found : list_any is_none_of (front ++ p ∷ back) ≡ true = list_any-append is_none_of front (p ∷ back) ∙ rw here (or-true (list_any is_none_of front)) in
    rw found refl

over-wrong : (front back : List Pair) (p : Pair) → number_most < size_of front + p.size → are_wrong_sizes (front ++ p ∷ back) ≡ true
over-wrong front back p over =
    let all = size_of-append front (p ∷ back) in
    let found : nat_lt number_most (size_of (front ++ p ∷ back)) ≡ true = grind (arith, nat_tests) in
    rw found (or-true (list_any is_none_of (front ++ p ∷ back)))

module _ (listed rest : List ℤ) (front : List Pair) (d e : ℤ) (two : 2 ≤ length rest) (joined : front ++ pairs_of rest ≡ pairs_of listed) where
  all-are : pairs_of listed ≡ front ++ record { size = positive_part (get_or rest 0 d); price = get_or rest 1 e } ∷ pairs_of (drop 2 rest)
  all-are = sym joined ∙ ap (λ ps. front ++ ps) (next_pair rest d e two)

  pub size_below : get_or rest 0 d <ℤ pos 1 → first_fault ((are_wrong_sizes (pairs_of listed), Limit) ∷ []) ≡ Some Limit
  size_below below = rw (ap are_wrong_sizes all-are ∙ none-wrong front (pairs_of (drop 2 rest)) _ (no_positive (get_or rest 0 d) below)) refl

  pub size_over : pos 1 ≤ℤ get_or rest 0 d → pos number_most <ℤ (pos (size_of front) +ℤ get_or rest 0 d) → first_fault ((are_wrong_sizes (pairs_of listed), Limit) ∷ []) ≡ Some Limit
  size_over some over =
      let is = all_positive (get_or rest 0 d) some in
      rw (ap are_wrong_sizes all-are ∙ over-wrong front (pairs_of (drop 2 rest)) _ (omega (arith, ints))) refl

  pub goes_on_with : (size : ℕ) → size ≡ positive_part (get_or rest 0 d) → (front ++ record { size = size; price = get_or rest 1 e } ∷ []) ++ pairs_of (drop 2 rest) ≡ pairs_of listed
  goes_on_with size is =
      append_assoc front (record { size = size; price = get_or rest 1 e } ∷ []) (pairs_of (drop 2 rest))
      ∙ ap (λ n. front ++ record { size = n; price = get_or rest 1 e } ∷ pairs_of (drop 2 rest)) is ∙ sym all-are

pub sizes_with : (front : List Pair) (p : Pair) → list_any is_none_of front ≡ false → 1 ≤ p.size → list_any is_none_of (front ++ p ∷ []) ≡ false
sizes_with front p none some =
    let here : (p.size == 0) ≡ false = grind (arith, nat_tests) in
    list_any-append is_none_of front (p ∷ []) ∙ rw (none, here) refl

pub sizes_right : (pairs : List Pair) → list_any is_none_of pairs ≡ false → size_of pairs ≤ number_most → first_fault ((are_wrong_sizes pairs, Limit) ∷ []) ≡ None
sizes_right pairs none most =
    let fits : nat_lt number_most (size_of pairs) ≡ false = grind (arith, nat_tests) in
    rw (none, fits) refl

-- ---- words that are pairs, by the numbers that are kept of them

pub length-pairs_of : (listed : List ℤ) → length (pairs_of listed) ≡ length listed / 2
length-pairs_of [] = refl
length-pairs_of (size ∷ []) = refl
length-pairs_of (size ∷ price ∷ rest) = let e = length-pairs_of rest in omega arith

not-failed : (b : Bool) (word : TableWord) → first_fault ((b, word) ∷ []) ≡ None → b ≡ false
not-failed true word is = cc
not-failed false word is = refl

pub is_even : (n : ℕ) → 0 < n → n % 2 ≢ 1 → is_odd_or_none n ≡ false
is_even n some even = grind (arith, nat_tests)

module _ (words : List (List ℕ)) (listed : List ℤ) (is : listed ≡ map near_number (numbers words)) (all : first_fault ((lacks_number words, Number) ∷ []) ≡ None)
    (even : is_odd_or_none (length listed) ≡ false) where
  counted-same : length words ≡ length listed
  counted-same = sym (ap length is ∙ length-map (numbers words) near_number ∙ length-map words (λ word. unwrap_or (number_of word) (pos 0)))

  by_limit : first_fault (pair_tests words) ≡ (if are_beyond (numbers words) then Some Limit else None)
  by_limit =
      let numbers_there : lacks_number words ≡ false = not-failed (lacks_number words) Number all in
      let even_words : is_odd_or_none (length words) ≡ false = ap is_odd_or_none counted-same ∙ even in
      rw (numbers_there, even_words) refl

  pub over_told : list_any is_over listed ≡ true → first_fault (pair_tests words) ≡ Some Limit
  over_told over =
      let found : list_any is_over (numbers words) ≡ true = sym (near-any (numbers words)) ∙ ap (list_any is_over) (sym is) ∙ over in
      by_limit ∙ rw found refl

  module _ (within : list_any is_over listed ≡ false) where
    within-numbers : list_any is_over (numbers words) ≡ false
    within-numbers = sym (near-any (numbers words)) ∙ ap (list_any is_over) (sym is) ∙ within

    pub kept_exact : listed ≡ numbers words
    kept_exact = is ∙ near-all (numbers words) within-numbers

    pub many_told : pairs_most < length listed / 2 → first_fault (pair_tests words) ≡ Some Limit
    many_told many =
        let count : length (pairs_of (numbers words)) ≡ length listed / 2 = ap (λ ns. length (pairs_of ns)) (sym kept_exact) ∙ length-pairs_of listed in
        let found : nat_lt pairs_most (length (pairs_of (numbers words))) ≡ true = grind (arith, nat_tests) in
        by_limit ∙ rw (within-numbers, found) refl

    pub sizes_told : length listed / 2 ≤ pairs_most → first_fault (pair_tests words) ≡ first_fault ((are_wrong_sizes (pairs_of listed), Limit) ∷ [])
    sizes_told few =
        let count : length (pairs_of (numbers words)) ≡ length listed / 2 = ap (λ ns. length (pairs_of ns)) (sym kept_exact) ∙ length-pairs_of listed in
        let found : nat_lt pairs_most (length (pairs_of (numbers words))) ≡ false = grind (arith, nat_tests) in
        by_limit ∙ rw (within-numbers, found, kept_exact) refl

-- a result that passes tests passes others with the same first fault
pub passes-same : {A : Type 0} (tests others : List (Bool × TableWord)) → first_fault tests ≡ first_fault others
    → (answer : Result A Refusal) → Passes others answer → Passes tests answer
passes-same tests others same (Ok value) passed = same ∙ passed
passes-same tests others same (Err (Fault word)) passed = same ∙ passed
passes-same tests others same (Err NoMemory) passed = tt

-- ---- numbers within the limit

pub within-two : (rest : List ℤ) (d e : ℤ) → 2 ≤ length rest → list_any is_over rest ≡ false
    → (is_over (get_or rest 0 d) ≡ false) × (is_over (get_or rest 1 e) ≡ false) × (list_any is_over (drop 2 rest) ≡ false)
within-two [] d e two within = absurd (omega arith)
within-two (size ∷ []) d e two within = absurd (omega arith)
within-two (size ∷ price ∷ rest) d e two within =
    let one = neither (is_over size) (list_any is_over (price ∷ rest)) within in
    let other = neither (is_over price) (list_any is_over rest) one.1 in
    (one.0, other.0, other.1)

pub within-number : (z : ℤ) → is_over z ≡ false → IsWithin number_most z
within-number z within = let most : unsigned_abs z ≤ number_most = grind (arith, nat_tests) in within_abs number_most z most

pub abs_positive : (z : ℤ) → pos 1 ≤ℤ z → unsigned_abs z ≡ positive_part z
abs_positive (pos n) some = refl
abs_positive (negsuc n) some = absurd (omega (arith, ints))
