-- A list that passes the tests of a line is the list of a curve, within the limits.
use Rattle.std.specs.Prelude.{◌≡◌, ℕ, zero, suc, ◌+◌, ◌-◌, ◌%◌, ◌<◌, ◌≤◌, ◌==◌, nat_lt, ℤ, pos, negsuc, Bool, true, false, not, ◌&&◌, ◌||◌, if◌then◌else◌, List, [], ◌∷◌, length, drop, take, refl}
use Rattle.std.specs.List.{list_any, zip}
use Rattle.std.proofs.Common.{arith, get_or, ◌∙◌, sym, ap, subst, lit≤, length-take, length-drop}
use Rattle.std.proofs.lemmas.List.{get_or-drop, get_or-take}
use Rattle.std.proofs.lemmas.Slice.Zip.{get_or-zip, length-zip}
use Rattle.theory.proofs.Bounds.{within_more}
use Rattle.std.proofs.lemmas.Bool.Decides.{nat_tests}
use Rattle.std.proofs.lemmas.Int.{ints}
use Rattle.theory.specs.declared.ext.Ext.{Ext}
use Rattle.theory.specs.declared.ext.Ext.TheVariants.{MinusInf, At, PlusInf}
use Rattle.theory.specs.CurveList.{IsCurveList, item}
use Rattle.theory.specs.Ends.{IsFinite, IsBelow, is_finite, is_below, whole}
use Rattle.theory.specs.Limits.{number_most, base_most, AreWithin, IsWithin, list_most}
use Rattle.mono_curve.specs.CurveValue.{IsValidCurve}
use Rattle.model_text.specs.ModelText.{items_of, is_over, are_over, is_misplaced, is_minus_inf, is_plus_inf, has_fall, are_misshapen, part_is_beyond, is_beyond, is_misshapen, is_node_line, body, part_list, part_items, part_base, part_listing, line_items, line_listing}
use Rattle.model_text.specs.declared.scale.Scale.{Scale}
use Rattle.model_text.proofs.ListTests.{neither, none-at}

-- the tests of a list, passed
pub record IsSound (items : List Ext) : Type 0 where
  pub small : are_over items ≡ false
  pub short : length items ≤ list_most
  pub odd : length items % 2 ≡ 1
  pub placed : is_misplaced items ≡ false
  pub single : (length items == 1 && not (is_finite (item items 0))) ≡ false
  pub rising : has_fall items ≡ false

pub within : (z : ℤ) → is_over z ≡ false → IsWithin number_most z
within (pos n) small = let most : n ≤ number_most = grind (arith, nat_tests) in (omega (arith, ints), omega (arith, ints))
within (negsuc n) small = let most : n < number_most = grind (arith, nat_tests) in (omega (arith, ints), omega (arith, ints))

not-minus : (items : List Ext) → is_misplaced items ≡ false → (k : ℕ) → 0 < k → k < length items → is_minus_inf (item items k) ≡ false
not-minus [] placed k after below = absurd (omega arith)
not-minus (e ∷ items) placed zero after below = absurd (omega arith)
not-minus (e ∷ items) placed (suc k) after below = none-at is_minus_inf items (neither (list_any is_minus_inf items) _ placed).0 k MinusInf (omega arith)

not-plus : (items : List Ext) → is_misplaced items ≡ false → (k : ℕ) → k + 1 < length items → is_plus_inf (item items k) ≡ false
not-plus items placed k before =
    let none = none-at is_plus_inf (take (length items - 1) items) (neither (list_any is_minus_inf (drop 1 items)) _ placed).1 k MinusInf
    (omega (arith, length-take (length items - 1) items)) in
    rw (get_or-take (length items - 1) items k MinusInf (omega arith)) at none

finite-by : (e : Ext) → is_minus_inf e ≡ false → is_plus_inf e ≡ false → IsFinite e
finite-by MinusInf m p = cc
finite-by (At a) m p = refl
finite-by PlusInf m p = cc

single-finite : (items : List Ext) → (length items == 1 && not (is_finite (item items 0))) ≡ false → length items ≡ 1 → IsFinite (item items 0)
single-finite items single one =
    finite-in (is_finite (item items 0)) (length items == 1) (grind (arith, nat_tests)) single
  where
    finite-in : (f one : Bool) → one ≡ true → (one && not f) ≡ false → f ≡ true
    finite-in true one is none = refl
    finite-in false true is none = cc
    finite-in false false is none = cc

rises-by : (items : List Ext) → has_fall items ≡ false → (k : ℕ) → k + 2 < length items → IsBelow (item items k) (item items (k + 2))
unfolding has_fall
rises-by items rising k below =
    let none = none-at (λ pair. not (is_below pair.0 pair.1)) (zip items (drop 2 items)) rising k (MinusInf, MinusInf)
    (omega (arith, length-zip items (drop 2 items), length-drop 2 items)) in
    let pair : get_or (zip items (drop 2 items)) k (MinusInf, MinusInf) ≡ (item items k, item items (k + 2)) =
    get_or-zip items (drop 2 items) k (MinusInf, MinusInf) (omega arith) (omega (arith, length-drop 2 items))
    ∙ ap (λ e. (item items k, e)) (get_or-drop 2 items k MinusInf ∙ ap (item items) (omega arith)) in
    truly (is_below (item items k) (item items (k + 2))) (rw pair at none)
  where
    truly : (b : Bool) → not b ≡ false → b ≡ true
    truly true none = refl
    truly false none = cc

pub sound-list : (items : List Ext) → IsSound items → IsCurveList items
sound-list items sound = record {
  odd = sound.odd;
  rises = rises-by items sound.rising;
  inner_finite = λ k after before. finite-by (item items k) (not-minus items sound.placed k after (omega arith)) (not-plus items sound.placed k before);
  single_finite = single-finite items sound.single;
}

pub sound-small : (items : List Ext) → IsSound items → AreWithin number_most items
sound-small items sound k below = within (whole (item items k)) (none-at (λ e. is_over (whole e)) items sound.small k MinusInf below)

-- the list and the base are those of a curve
pub sound-curve : (items : List Ext) (base : ℤ) → IsSound items → IsWithin number_most base → IsValidCurve (record { items = items; base = base })
sound-curve items base sound small = record {
  is_list = sound-list items sound;
  short = omega (arith, sound.short);
  items_within = sound-small items sound;
  base_within = within_more number_most base_most base (lit≤ tt) small;
}

-- ---- the list of a line, where it passes

-- an empty list of a node stands for the one point 0
abbrev pub filled : List Ext → List Ext
filled items = if length items == 0 then At (pos 0) ∷ [] else items

filled-some : (e : Ext) (items : List Ext) → filled (e ∷ items) ≡ e ∷ items
filled-some e items =
    let some : (length (e ∷ items) == 0) ≡ false = grind (arith, nat_tests) in
    ap (λ b. if b then At (pos 0) ∷ [] else e ∷ items) some

pub sound-filled : (items : List Ext) (is_node : Bool) → nat_lt list_most (length items) ≡ false → are_over items ≡ false
    → (length items % 2 == 0 && not (is_node && length items == 0)) ≡ false → is_misplaced items ≡ false
    → (length items == 1 && not (is_finite (item items 0))) ≡ false → has_fall items ≡ false → IsSound (filled items)
unfolding has_fall
sound-filled [] is_node short small count placed single rising =
    record { small = refl; short = omega arith; odd = refl; placed = refl; single = refl; rising = refl }
sound-filled (e ∷ items) is_node short small count placed single rising = subst IsSound (sym (filled-some e items)) (record {
  small = small;
  short = grind (arith, nat_tests);
  odd = odd-by (length (e ∷ items)) is_node (omega arith) count;
  placed = placed;
  single = single;
  rising = rising;
})
  where
    odd-by : (n : ℕ) (node : Bool) → 0 < n → (n % 2 == 0 && not (node && n == 0)) ≡ false → n % 2 ≡ 1
    odd-by n node some count = grind (arith, nat_tests)

pub items-count : (here next : ℕ) (words : List (List ℕ)) → length (items_of here next words) ≡ length words
items-count here next [] = refl
items-count here next (word ∷ words) = ap suc (items-count next here words)

pub sound-shaped : (items : List Ext) (node : Bool) → length items ≤ list_most → are_over items ≡ false → are_misshapen node items ≡ false → has_fall items ≡ false
    → IsSound (filled items)
sound-shaped items node short small shape order =
    let one = neither ((length items % 2 == 0 && not (node && length items == 0)) || is_misplaced items) _ shape in
    let two = neither _ (is_misplaced items) one.0 in
    sound-filled items node (grind (arith, nat_tests)) small two.0 two.1 one.1 order

-- what is within the limits
pub record AreInLimits (s : Scale) (part : List (List ℕ)) : Type 0 where
  pub short : length (part_items s part) ≤ list_most
  pub items : are_over (part_items s part) ≡ false
  pub base : is_over (part_base s part) ≡ false

pub in-limits : (s : Scale) (part : List (List ℕ)) → part_is_beyond s part ≡ false → AreInLimits s part
unfolding part_is_beyond part_items
in-limits s part limit =
    let one = neither (nat_lt list_most (length (part_list part)) || are_over (part_items s part)) (is_over (part_base s part)) limit in
    let two = neither (nat_lt list_most (length (part_list part))) (are_over (part_items s part)) one.0 in
    record { short = rw (items-count s.flow s.tension (part_list part)) (grind (arith, nat_tests, two.0)); items = two.1; base = one.1 }

pub listing-is : (s : Scale) (part : List (List ℕ)) → part_listing s part ≡ record { items = filled (part_items s part); base = part_base s part }
unfolding part_listing
listing-is s part = refl

module _ (s : Scale) (words : List (List ℕ)) (limit : is_beyond s words ≡ false) (shape : is_misshapen s words ≡ false) (order : has_fall (line_items s words) ≡ false) where
  pub sound-line : IsSound (line_listing s words).items
  unfolding is_beyond is_misshapen line_items line_listing part_listing
  sound-line =
      let within = in-limits s (body words) limit in
      sound-shaped (part_items s (body words)) (is_node_line words) within.short within.items shape order

  pub sound-base : IsWithin number_most (line_listing s words).base
  unfolding is_beyond line_listing part_listing
  sound-base = within (part_base s (body words)) (in-limits s (body words) limit).base
