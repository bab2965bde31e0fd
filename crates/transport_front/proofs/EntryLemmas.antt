-- The tests of a line after the header, as they are made in turn: those of its names, of its numbers, and those that need the table.
use Rattle.std.specs.Prelude.{◌≡◌, ◌≢◌, ℕ, zero, suc, ◌+◌, ◌<◌, ◌≤◌, ◌==◌, ◌/◌, ◌%◌, nat_lt, nat_le, ℤ, pos, negsuc, ◌≤ℤ◌, int_lt, Bool, true, false, not, ◌||◌, ◌&&◌, if◌then◌else◌, Option, None, Some, is_some, Result, Ok, Err, List, [], ◌∷◌, ◌++◌, length, take, drop, refl, codes, slice_index_or}
use Rattle.std.specs.List.{list_any, list_all}
use Rattle.std.specs.Str.{bytes_eq}
use Rattle.std.proofs.Common.{arith, get_or, ◌∙◌, sym, ap, subst}
use Rattle.std.proofs.lemmas.Bool.Decides.{nat_tests}
use Rattle.std.proofs.lemmas.Int.{ints}
use Rattle.std.proofs.lemmas.List.{get_or-take, length-map}
use Rattle.std.proofs.lemmas.Grind.{get_or_after_one}
use Rattle.theory.specs.Limits.{number_most, nodes_most, arcs_most, IsWithin}
use Rattle.theory.specs.Sums.{positive_part}
use Rattle.model_text.specs.Names.{is_name}
use Rattle.model_text.specs.ModelText.{word_at, is_over}
use Rattle.model_text.specs.NumberWords.{number_of}
use Rattle.model_text.specs.Model.{place_of}
use Rattle.model_text.proofs.ListTests.{neither, none-at}
use Rattle.transport_front.specs.declared.pair.Pair.{Pair}
use Rattle.transport_front.specs.declared.fault.TableWord.{TableWord}
use Rattle.transport_front.specs.declared.fault.TableWord.TheVariants.{Keyword, Name, Number, Limit, Order, Twice, Unknown}
use Rattle.transport_front.specs.declared.fault.Refusal.{Refusal}
use Rattle.transport_front.specs.declared.fault.Refusal.TheVariants.{Fault, NoMemory}
use Rattle.transport_front.specs.Table.{Kind, Table, size_of, has_fall, pairs_most, is_plant, is_shop, kind_at, place_names, ArePairs, IsKind, IsLane}
use Rattle.transport_front.specs.Table.Kind.{plant, shop}
use Rattle.transport_front.specs.TableText.{first_fault, lacks_names, names_of, behind, numbers, pairs_of, line_pairs, demand_of, pair_tests, demand_tests, lacks_number, is_odd_or_none, are_beyond, are_wrong_sizes, is_no_demand, has_all_places, has_all_lanes, has_place, has_lane, passes_at, is_unknown, is_plant_line, is_shop_line, is_lane_line, plant_tests, shop_tests, lane_tests, entry_tests, with_line, with_place, with_lane_line}
use Rattle.transport_front.specs.Reading.{Passes, AreEnds}
use Rattle.transport_front.proofs.PairLemmas.{is_none_of, length-pairs_of, within-number}

abbrev Tests : Type 0
Tests = List (Bool × TableWord)

-- ---- some tests, and then others

pub passed-front : (tests rest : Tests) → first_fault tests ≡ None → first_fault (tests ++ rest) ≡ first_fault rest
passed-front [] rest none = refl
passed-front ((true, word) ∷ tests) rest none = cc
passed-front ((false, word) ∷ tests) rest none = passed-front tests rest none

failed-front : (tests rest : Tests) (word : TableWord) → first_fault tests ≡ Some word → first_fault (tests ++ rest) ≡ Some word
failed-front [] rest word some = cc
failed-front ((true, other) ∷ tests) rest word some = some
failed-front ((false, other) ∷ tests) rest word some = failed-front tests rest word some

pub refused-front : (all tests rest : Tests) → first_fault all ≡ first_fault (tests ++ rest) → (refusal : Refusal)
    → Passes {A = Unit {0}} tests (Err refusal) → Passes {A = Unit {0}} all (Err refusal)
refused-front all tests rest same (Fault word) refused = same ∙ failed-front tests rest word refused
refused-front all tests rest same NoMemory refused = tt

-- ---- the tests of each kind of line, behind its names and its numbers

abbrev pub plant_rest : Table → List (List ℕ) → Tests
plant_rest t words = (has_all_places t, Limit) ∷ (has_fall (line_pairs 1 words), Order) ∷ (has_place t (word_at words 1), Twice) ∷ []

abbrev pub shop_rest : Table → List (List ℕ) → Tests
shop_rest t words = (has_all_places t, Limit) ∷ (has_place t (word_at words 1), Twice) ∷ []

abbrev pub lane_rest : Table → List (List ℕ) → Tests
lane_rest t words = (has_all_lanes t, Limit) ∷ (has_fall (line_pairs 3 words), Order) ∷ (has_lane t (word_at words 1), Twice) ∷ (is_unknown t words, Unknown) ∷ []

module _ (t : Table) (words : List (List ℕ)) where
  pub plant_unnamed : lacks_names 1 words ≡ true → first_fault (plant_tests t words) ≡ Some Name
  unfolding plant_tests
  plant_unnamed lacks = rw lacks refl

  pub shop_unnamed : lacks_names 1 words ≡ true → first_fault (shop_tests t words) ≡ Some Name
  unfolding shop_tests
  shop_unnamed lacks = rw lacks refl

  pub lane_unnamed : lacks_names 3 words ≡ true → first_fault (lane_tests t words) ≡ Some Name
  unfolding lane_tests
  lane_unnamed lacks = rw lacks refl

  pub plant_named : lacks_names 1 words ≡ false → first_fault (plant_tests t words) ≡ first_fault (pair_tests (behind 1 words) ++ plant_rest t words)
  unfolding plant_tests
  plant_named named = rw named refl

  pub shop_named : lacks_names 1 words ≡ false → first_fault (shop_tests t words) ≡ first_fault (demand_tests (behind 1 words) ++ shop_rest t words)
  unfolding shop_tests
  shop_named named = rw named refl

  pub lane_named : lacks_names 3 words ≡ false → first_fault (lane_tests t words) ≡ first_fault (pair_tests (behind 3 words) ++ lane_rest t words)
  unfolding lane_tests
  lane_named named = rw named refl

  -- ---- the kinds of lines

  pub entry_plant : is_plant_line words ≡ true → entry_tests t words ≡ plant_tests t words
  unfolding entry_tests
  entry_plant is = rw is refl

  pub entry_shop : is_plant_line words ≡ false → is_shop_line words ≡ true → entry_tests t words ≡ shop_tests t words
  unfolding entry_tests
  entry_shop other is = rw (other, is) refl

  pub entry_lane : is_plant_line words ≡ false → is_shop_line words ≡ false → is_lane_line words ≡ true → entry_tests t words ≡ lane_tests t words
  unfolding entry_tests
  entry_lane other nor is = rw (other, nor, is) refl

  pub entry_other : is_plant_line words ≡ false → is_shop_line words ≡ false → is_lane_line words ≡ false → first_fault (entry_tests t words) ≡ Some Keyword
  unfolding entry_tests
  entry_other one two three = rw (one, two, three) refl

  pub with_plant : is_plant_line words ≡ true → with_line t words ≡ with_place t (word_at words 1) (plant (line_pairs 1 words))
  unfolding with_line
  with_plant is = rw is refl

  pub with_shop : is_plant_line words ≡ false → is_shop_line words ≡ true → with_line t words ≡ with_place t (word_at words 1) (shop (positive_part (demand_of (behind 1 words))))
  unfolding with_line
  with_shop other is = rw (other, is) refl

  pub with_lane_is : is_plant_line words ≡ false → is_shop_line words ≡ false → is_lane_line words ≡ true → with_line t words ≡ with_lane_line t words
  unfolding with_line
  with_lane_is other nor is = rw (other, nor, is) refl

pub plant_line-is : (words : List (List ℕ)) → is_plant_line words ≡ bytes_eq (word_at words 0) (codes "plant")
unfolding is_plant_line
plant_line-is words = refl

pub shop_line-is : (words : List (List ℕ)) → is_shop_line words ≡ bytes_eq (word_at words 0) (codes "shop")
unfolding is_shop_line
shop_line-is words = refl

pub lane_line-is : (words : List (List ℕ)) → is_lane_line words ≡ bytes_eq (word_at words 0) (codes "lane")
unfolding is_lane_line
lane_line-is words = refl

-- ---- names

yes : (b : Bool) → not b ≡ false → b ≡ true
yes true is = refl
yes false is = cc

both : (a b : Bool) → (a && b) ≡ true → (a ≡ true) × (b ≡ true)
both true b is = (refl, is)
both false b is = cc

all-at : (p : List ℕ → Bool) (names : List (List ℕ)) → list_all p names ≡ true → (k : ℕ) (d : List ℕ) → k < length names → p (get_or names k d) ≡ true
all-at p [] all k d here = absurd (omega arith)
all-at p (name ∷ names) all zero d here = (both (p name) (list_all p names) all).0
all-at p (name ∷ names) all (suc k) d here = all-at p names (both (p name) (list_all p names) all).1 k d (omega arith)

pub first_named : (count : ℕ) (words : List (List ℕ)) → 0 < count → lacks_names count words ≡ false → is_name (word_at words 1) ≡ true
first_named count words some none =
    let two = neither (nat_lt (length (names_of count words)) count) (not (list_all is_name (names_of count words))) none in
    let many : 0 < length (names_of count words) = grind (arith, nat_tests, two.0) in
    let is = all-at is_name (names_of count words) (yes (list_all is_name (names_of count words)) two.1) 0 [] many in
    rw (get_or-take count (drop 1 words) 0 [] some, get_or_after_one words 0 []) at is

-- ---- pairs that pass their tests

prices_within : (listed : List ℤ) → list_any is_over listed ≡ false → (k : ℕ) (d : Pair) → k < length (pairs_of listed) → IsWithin number_most (slice_index_or (pairs_of listed) k d).price
prices_within [] within k d here = absurd (omega arith)
prices_within (size ∷ []) within k d here = absurd (omega arith)
prices_within (size ∷ price ∷ rest) within zero d here = within-number price (neither (is_over price) (list_any is_over rest) (neither (is_over size) (list_any is_over (price ∷ rest)) within).1).0
prices_within (size ∷ price ∷ rest) within (suc k) d here =
    prices_within rest (neither (is_over price) (list_any is_over rest) (neither (is_over size) (list_any is_over (price ∷ rest)) within).1).1 k d (omega arith)

two-tests : (a b : Bool) → first_fault ((a, Number) ∷ (b, Limit) ∷ []) ≡ None → (a ≡ false) × (b ≡ false)
two-tests true b none = cc
two-tests false true none = cc
two-tests false false none = (refl, refl)

pub pairs_right : (words : List (List ℕ)) → first_fault (pair_tests words) ≡ None → has_fall (pairs_of (numbers words)) ≡ false → ArePairs (pairs_of (numbers words))
pairs_right words none rise =
    let tests = two-tests (lacks_number words || is_odd_or_none (length words)) (are_beyond (numbers words)) none in
    let counts = neither (lacks_number words) (is_odd_or_none (length words)) tests.0 in
    let even = neither (length words == 0) (length words % 2 == 1) counts.1 in
    let sizes = neither (list_any is_over (numbers words) || nat_lt pairs_most (length (pairs_of (numbers words)))) (are_wrong_sizes (pairs_of (numbers words))) tests.1 in
    let limits = neither (list_any is_over (numbers words)) (nat_lt pairs_most (length (pairs_of (numbers words)))) sizes.0 in
    let each = neither (list_any is_none_of (pairs_of (numbers words))) (nat_lt number_most (size_of (pairs_of (numbers words)))) sizes.1 in
    let count = length-pairs_of (numbers words) in
    let all : length (numbers words) ≡ length words = length-map words _ in
    let two : 2 ≤ length words = grind (arith, nat_tests, even.0, even.1) in
    record {
      some = omega arith;
      few = grind (arith, nat_tests, limits.1);
      sizes = λ k d here. (let is = none-at is_none_of (pairs_of (numbers words)) each.0 k d here in grind (arith, nat_tests));
      total = grind (arith, nat_tests, each.1);
      prices = prices_within (numbers words) limits.0;
      rise = rise;
    }

pub plant_right : (pairs : List Pair) → ArePairs pairs → IsKind (plant pairs)
plant_right pairs are = record { pairs = λ is. are; demand = omega arith }

pub shop_right : (words : List (List ℕ)) → first_fault (demand_tests words) ≡ None → IsKind (shop (positive_part (demand_of words)))
shop_right words none =
    let tests = two-tests (is_no_demand words) (is_over (demand_of words) || int_lt (demand_of words) (pos 0)) none in
    let limits = neither (is_over (demand_of words)) (int_lt (demand_of words) (pos 0)) tests.1 in
    let within = within-number (demand_of words) limits.0 in
    record { pairs = λ is. cc; demand = small (demand_of words) within.1 }
  where
    small : (z : ℤ) → z ≤ℤ pos number_most → positive_part z ≤ number_most
    small (pos n) most = omega (arith, ints)
    small (negsuc n) most = omega arith

pub lane_right : (t : Table) (words : List (List ℕ)) (bytes : List ℕ) (from to : ℕ) (pairs : List Pair) → AreEnds t words from to → ArePairs pairs
    → IsLane t.places (record { name = bytes; from = from; to = to; pairs = pairs })
lane_right t words bytes from to pairs ends are =
    record { tail = ends.tail_there; head = ends.head_there; from_plant = ends.from_plant; to_shop = ends.to_shop; pairs = are }
