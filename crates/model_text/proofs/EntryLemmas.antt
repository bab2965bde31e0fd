-- The part of a line that lists a curve. Of numbers beyond the limit the reader keeps what shows that they are, and the others as they are.
use Rattle.std.specs.Prelude.{◌≡◌, ℕ, zero, suc, ◌+◌, min, nat_lt, ℤ, pos, negsuc, neg_ℤ, Bool, true, false, ◌||◌, if◌then◌else◌, Option, None, Some, Err, List, [], ◌∷◌, length, map, refl}
use Rattle.std.proofs.Common.{arith, sym, ◌∙◌, ap}
use Rattle.std.proofs.lemmas.Bool.Decides.{nat_tests}
use Rattle.theory.specs.declared.ext.Ext.{Ext}
use Rattle.theory.specs.declared.ext.Ext.TheVariants.{MinusInf, At, PlusInf}
use Rattle.theory.specs.Limits.{number_most, list_most}
use Rattle.model_text.proofs.ListTests.{neither}
use Rattle.model_text.specs.declared.fault.FaultWord.{FaultWord}
use Rattle.model_text.specs.declared.fault.FaultWord.TheVariants.{Number, Limit}
use Rattle.model_text.specs.declared.fault.PartFault.{PartFault}
use Rattle.model_text.specs.declared.fault.PartFault.TheVariants.{Word, NoMemory}
use Rattle.mono_curve.specs.declared.curve.Curve.{Curve}
use Rattle.theory.specs.Grounded.{Entries}
use Rattle.model_text.specs.LineParts.{item_tests, number_tests, shape_tests, curve_tests, Passes}
use Rattle.model_text.specs.declared.part.Numbers.{Numbers}
use Rattle.model_text.specs.Scale.{cost_decimals}
use Rattle.model_text.specs.declared.scale.Scale.{Scale}
use Rattle.model_text.specs.ModelText.{is_over, are_over, is_no_base, lack_items, part_list, from_base, part_items, part_base, part_listing, part_lacks_numbers, part_is_beyond, body, line_items, line_listing, lacks_names, lacks_numbers, is_beyond, is_full, is_misshapen, is_node_line, first_fault}
use Rattle.model_text.specs.NearNumbers.{near_number, near_item}

over-neg : (m : ℕ) → is_over (neg_ℤ (pos m)) ≡ nat_lt number_most m
over-neg zero = refl
over-neg (suc m) = refl

pub near-over : (z : ℤ) → is_over (near_number z) ≡ is_over z
near-over (pos n) = grind (arith, nat_tests)
near-over (negsuc n) = over-neg (min (n + 1) (number_most + 1)) ∙ grind (arith, nat_tests)

pub near-exact : (z : ℤ) → is_over z ≡ false → near_number z ≡ z
near-exact (pos n) within = let least : min n (number_most + 1) ≡ n = grind (arith, nat_tests) in ap pos least
near-exact (negsuc n) within = let least : min (n + 1) (number_most + 1) ≡ suc n = grind (arith, nat_tests) in ap (λ m. neg_ℤ (pos m)) least

items-over : (items : List Ext) → are_over (map near_item items) ≡ are_over items
items-over [] = refl
items-over (MinusInf ∷ items) = items-over items
items-over (At z ∷ items) = rw (near-over z, items-over items) refl
items-over (PlusInf ∷ items) = items-over items

items-exact : (items : List Ext) → are_over items ≡ false → map near_item items ≡ items
items-exact [] within = refl
items-exact (MinusInf ∷ items) within = ap (λ rest. MinusInf ∷ rest) (items-exact items within)
items-exact (At z ∷ items) within =
    let two = neither (is_over z) (are_over items) within in
    ap (λ number. At number ∷ map near_item items) (near-exact z two.0) ∙ ap (λ rest. At z ∷ rest) (items-exact items two.1)
items-exact (PlusInf ∷ items) within = ap (λ rest. PlusInf ∷ rest) (items-exact items within)

module _ (s : Scale) (part : List (List ℕ)) where
  pub beyond_long : nat_lt list_most (length (part_list part)) ≡ true → part_is_beyond s part ≡ true
  unfolding part_is_beyond
  beyond_long long = rw long refl

  -- what was kept is beyond the limit exactly where the part is
  pub beyond_kept : (items : List Ext) (base : ℤ) → items ≡ map near_item (part_items s part) → base ≡ near_number (part_base s part)
      → nat_lt list_most (length (part_list part)) ≡ false → part_is_beyond s part ≡ (are_over items || is_over base)
  unfolding part_is_beyond
  beyond_kept items base items-is base-is short =
      rw (short, items-is, base-is, items-over (part_items s part), near-over (part_base s part)) refl

  pub items_kept : (items : List Ext) → items ≡ map near_item (part_items s part) → are_over items ≡ false → items ≡ part_items s part
  items_kept items is within = is ∙ items-exact (part_items s part) (sym (items-over (part_items s part)) ∙ sym (ap are_over is) ∙ within)

  pub base_kept : (base : ℤ) → base ≡ near_number (part_base s part) → is_over base ≡ false → base ≡ part_base s part
  base_kept base is within = is ∙ near-exact (part_base s part) (sym (near-over (part_base s part)) ∙ sym (ap is_over is) ∙ within)

  -- ---- the words that are to be numbers

  pub numbers-lacking : is_no_base (cost_decimals s) (from_base part) ≡ true → part_lacks_numbers s part ≡ true
  unfolding part_lacks_numbers
  numbers-lacking none = grind arith

  pub numbers-there : first_fault (item_tests s (part_list part)) ≡ None → is_no_base (cost_decimals s) (from_base part) ≡ false → part_lacks_numbers s part ≡ false
  unfolding part_lacks_numbers
  numbers-there listed based = rw (passed (lack_items s.flow s.tension (part_list part)) listed, based) refl
    where
      passed : (fails : Bool) → ◌≡◌ {A = Option FaultWord} (if fails then Some Number else None) None → fails ≡ false
      passed true is = cc
      passed false is = refl

  -- what refuses the list refuses the part
  pub list-refused : (listed : List (List ℕ)) (fault : PartFault) → listed ≡ part_list part → Passes {A = List Ext} (item_tests s listed) (Err fault)
      → Passes {A = Numbers} (number_tests s part) (Err fault)
  unfolding part_lacks_numbers
  list-refused listed (Word word) is refused = rw (← is) (fault-by (lack_items s.flow s.tension listed) refused)
    where
      fault-by : (fails : Bool) → ◌≡◌ {A = Option FaultWord} (if fails then Some Number else None) (Some word)
          → (if fails || is_no_base (cost_decimals s) (from_base part) then Some Number else (if part_is_beyond s part then Some Limit else None)) ≡ Some word
      fault-by true is = is
      fault-by false is = cc
  list-refused listed NoMemory is refused = tt

-- ---- the same of a line whose words behind the names are the part

module _ (s : Scale) (m : Entries) (words part : List (List ℕ)) (is : part ≡ body words) (named : lacks_names words ≡ false) where
  pub numbers-refused : (fault : PartFault) → Passes {A = Numbers} (number_tests s part) (Err fault) → Passes {A = Curve} (curve_tests s m words) (Err fault)
  unfolding lacks_numbers is_beyond
  numbers-refused (Word word) refused =
      rw (named, ← is) (by _ (part_lacks_numbers s part) (part_is_beyond s part) refused)
    where
      by : (others : Option FaultWord) (lacks beyond : Bool)
          → ◌≡◌ {A = Option FaultWord} (if lacks then Some Number else (if beyond then Some Limit else None)) (Some word)
          → (if lacks then Some Number else (if beyond then Some Limit else others)) ≡ Some word
      by others true beyond is = is
      by others false true is = is
      by others false false is = cc
  numbers-refused NoMemory refused = tt

  pub numbers-passed : first_fault (number_tests s part) ≡ None → (lacks_numbers s words ≡ false) × (is_beyond s words ≡ false)
  unfolding lacks_numbers is_beyond
  numbers-passed passed = rw (← is) (by (part_lacks_numbers s part) (part_is_beyond s part) passed)
    where
      by : (lacks beyond : Bool) → ◌≡◌ {A = Option FaultWord} (if lacks then Some Number else (if beyond then Some Limit else None)) None
          → (lacks ≡ false) × (beyond ≡ false)
      by true beyond passed = cc
      by false true passed = cc
      by false false passed = (refl, refl)

  pub room-lacking : first_fault (number_tests s part) ≡ None → is_full m words ≡ true → first_fault (curve_tests s m words) ≡ Some Limit
  room-lacking passed full = let numbers = numbers-passed passed in rw (named, numbers.0, numbers.1, full) refl

  -- then only the shape of the list is left to test
  pub shape-left : first_fault (number_tests s part) ≡ None → is_full m words ≡ false
      → first_fault (curve_tests s m words) ≡ first_fault (shape_tests (is_node_line words) (part_items s part))
  unfolding is_misshapen line_items
  shape-left passed room = let numbers = numbers-passed passed in rw (named, numbers.0, numbers.1, room, is) refl

  pub listing-is : part_listing s part ≡ line_listing s words
  unfolding line_listing
  listing-is = ap (part_listing s) is
