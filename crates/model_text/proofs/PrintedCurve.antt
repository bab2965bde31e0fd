-- The words of a printed curve read back as the curve, and pass the tests of a list.
use Rattle.std.specs.Prelude.{◌≡◌, ℕ, zero, suc, ◌+◌, ◌-◌, ◌<◌, ◌==◌, nat_lt, ℤ, pos, Bool, true, false, not, ◌&&◌, ◌||◌, if◌then◌else◌, unwrap_or, List, [], ◌∷◌, ◌++◌, length, take, drop, codes, refl}
use Rattle.std.specs.List.{list_any, zip, position_or_len}
use Rattle.std.specs.Ordering.{int_eq}
use Rattle.std.proofs.Common.{arith, ◌∙◌, sym, ap, get_or, length-take, length-drop}
use Rattle.std.proofs.lemmas.Bool.Decides.{nat_tests, Decides-int_eq}
use Rattle.std.proofs.lemmas.List.{get_or-take, get_or-drop}
use Rattle.std.proofs.lemmas.Grind.{get_or_after_one}
use Rattle.std.proofs.lemmas.Slice.Zip.{get_or-zip, length-zip}
use Rattle.theory.specs.CurveList.{IsCurveList, item}
use Rattle.theory.specs.Ends.{whole, is_finite, is_below, IsFinite, IsBelow}
use Rattle.theory.specs.Limits.{AreWithin, number_most, IsWithin}
use Rattle.theory.specs.declared.ext.Ext.{Ext}
use Rattle.theory.specs.declared.ext.Ext.TheVariants.{MinusInf, At, PlusInf}
use Rattle.model_text.specs.ModelText.{items_of, lack_items, is_base_word, is_over, are_over, is_no_base, is_misplaced, is_minus_inf, is_plus_inf, has_fall, word_at}
use Rattle.model_text.specs.NumberWords.{fixed_of}
use Rattle.model_text.specs.Printed.{printed_fixed, printed_list, printed_base}
use Rattle.model_text.proofs.ListTests.{none-by}
use Rattle.model_text.proofs.PrintedWords.{item-read, item-plain, item-no-base, number-read, number-plain}
use Rattle.model_text.proofs.FixedNumbers.{small-by}
use Rattle.model_text.proofs.PrintedLines.{ArePlain, no_more, one_more}

-- ---- the list

front-within : (e : Ext) (items : List Ext) → AreWithin number_most (e ∷ items) → IsWithin number_most (whole e)
front-within e items within = within 0 (omega arith)

rest-within : (e : Ext) (items : List Ext) → AreWithin number_most (e ∷ items) → AreWithin number_most items
rest-within e items within k below = within (suc k) (omega arith)

pub list-read : (here next : ℕ) (items : List Ext) → AreWithin number_most items → items_of here next (printed_list here next items) ≡ items
list-read here next [] within = refl
list-read here next (e ∷ items) within = rw (item-read here e (front-within e items within), list-read next here items (rest-within e items within)) refl

pub list-items : (here next : ℕ) (items : List Ext) → AreWithin number_most items → lack_items here next (printed_list here next items) ≡ false
list-items here next [] within = refl
list-items here next (e ∷ items) within = rw (item-read here e (front-within e items within)) (list-items next here items (rest-within e items within))

pub list-plain : (here next : ℕ) (items : List Ext) → AreWithin number_most items → ArePlain (printed_list here next items)
list-plain here next [] within = no_more
list-plain here next (e ∷ items) within = one_more (item-plain here e (front-within e items within)) (list-plain next here items (rest-within e items within))

pub list-count : (here next : ℕ) (items : List Ext) → length (printed_list here next items) ≡ length items
list-count here next [] = refl
list-count here next (e ∷ items) = ap suc (list-count next here items)

-- ---- the base

module _ (decimals : ℕ) (base : ℤ) where
  pub base-plain : IsWithin number_most base → ArePlain (printed_base decimals base)
  base-plain within =
      elim (int_eq base (pos 0)) as (λ b. ArePlain (if b then [] else (codes "base" ∷ printed_fixed decimals base ∷ []))) [
        | true ↦ no_more
        | false ↦ one_more (record { plain = refl; some = omega arith }) (one_more (number-plain decimals base within) no_more)
      ]

  pub base-is-one : IsWithin number_most base → is_no_base decimals (printed_base decimals base) ≡ false
  base-is-one within =
      elim (int_eq base (pos 0)) as (λ b. is_no_base decimals (if b then [] else (codes "base" ∷ printed_fixed decimals base ∷ [])) ≡ false) [
        | true ↦ refl
        | false ↦ rw (number-read decimals base within) refl
      ]

  pub base-read : IsWithin number_most base → unwrap_or (fixed_of decimals (word_at (printed_base decimals base) 1)) (pos 0) ≡ base
  base-read within =
      elim (int_eq base (pos 0)) as (λ b. int_eq base (pos 0) ≡ b → unwrap_or (fixed_of decimals (word_at (if b then [] else (codes "base" ∷ printed_fixed decimals base ∷ [])) 1)) (pos 0) ≡ base) [
        | true ↦ λ zero_base. sym ((Decides-int_eq base (pos 0)).0 zero_base)
        | false ↦ λ other. rw (number-read decimals base within) refl
      ] refl

-- ---- where the list ends

base-first : (decimals : ℕ) (base : ℤ) → position_or_len is_base_word (printed_base decimals base) ≡ 0
base-first decimals base =
    elim (int_eq base (pos 0)) as (λ b. position_or_len is_base_word (if b then [] else (codes "base" ∷ printed_fixed decimals base ∷ [])) ≡ 0) [ true ↦ refl | false ↦ refl ]

pub list-ends : (here next decimals : ℕ) (items : List Ext) (base : ℤ) → AreWithin number_most items
    → position_or_len is_base_word (printed_list here next items ++ printed_base decimals base) ≡ length (printed_list here next items)
list-ends here next decimals [] base within = base-first decimals base
list-ends here next decimals (e ∷ items) base within =
    rw (item-no-base here e (front-within e items within), list-ends next here decimals items base (rest-within e items within)) (omega arith)

-- ---- the tests of a list, from what every curve list keeps

not-over : (z : ℤ) → IsWithin number_most z → is_over z ≡ false
not-over z within = let small = small-by number_most z within in grind (arith, nat_tests)

pub within-small : (items : List Ext) → AreWithin number_most items → are_over items ≡ false
within-small items within =
    none-by (λ e. is_over (whole e)) items MinusInf (λ k below. not-over (whole (item items k)) (within k below))

pub base-small : (base : ℤ) → IsWithin number_most base → is_over base ≡ false
base-small base within = not-over base within

finite-not-minus : (e : Ext) → IsFinite e → is_minus_inf e ≡ false
finite-not-minus MinusInf finite = cc
finite-not-minus (At a) finite = refl
finite-not-minus PlusInf finite = cc

finite-not-plus : (e : Ext) → IsFinite e → is_plus_inf e ≡ false
finite-not-plus MinusInf finite = cc
finite-not-plus (At a) finite = refl
finite-not-plus PlusInf finite = cc

above-not-minus : (d e : Ext) → IsBelow d e → is_minus_inf e ≡ false
above-not-minus MinusInf MinusInf rises = cc
above-not-minus (At a) MinusInf rises = cc
above-not-minus PlusInf MinusInf rises = cc
above-not-minus d (At a) rises = refl
above-not-minus d PlusInf rises = refl

below-not-plus : (d e : Ext) → IsBelow d e → is_plus_inf d ≡ false
below-not-plus MinusInf e rises = refl
below-not-plus (At a) e rises = refl
below-not-plus PlusInf e rises = cc

-- past the first item none is minus infinity: the next one is inside, and each later one is above another
not-minus : (items : List Ext) → IsCurveList items → (k : ℕ) → 1 + k < length items → is_minus_inf (item items (1 + k)) ≡ false
not-minus items curve zero below = finite-not-minus (item items 1) (curve.inner_finite 1 (omega arith) (omega (arith, curve.odd)))
not-minus items curve (suc k) below =
    let rises = curve.rises k (omega arith) in
    let there : k + 2 ≡ 1 + suc k = omega arith in
    above-not-minus (item items k) (item items (1 + suc k)) (rw there at rises)

-- before the last item none is plus infinity: the one before it is inside, and each earlier one is below another
not-plus : (items : List Ext) → IsCurveList items → (k : ℕ) → k + 1 < length items → is_plus_inf (item items k) ≡ false
not-plus items curve k below = by (nat_lt (k + 2) (length items)) refl
  where
    by : (b : Bool) → nat_lt (k + 2) (length items) ≡ b → is_plus_inf (item items k) ≡ false
    by true more = below-not-plus (item items k) (item items (k + 2)) (curve.rises k (grind (arith, nat_tests)))
    by false last =
        let next : length items ≡ k + 2 = grind (arith, nat_tests) in
        finite-not-plus (item items k) (curve.inner_finite k (omega (arith, curve.odd)) below)

or-none-by : (a b : Bool) → a ≡ false → b ≡ false → (a || b) ≡ false
or-none-by a b first second = rw (first, second) refl

pub list-placed : (items : List Ext) → IsCurveList items → is_misplaced items ≡ false
list-placed items curve =
    or-none-by (list_any is_minus_inf (drop 1 items)) (list_any is_plus_inf (take (length items - 1) items))
    (none-by is_minus_inf (drop 1 items) MinusInf (λ k below.
    let inside : 1 + k < length items = omega (arith, length-drop 1 items) in
    rw (get_or_after_one items k MinusInf) (not-minus items curve k inside)))
    (none-by is_plus_inf (take (length items - 1) items) MinusInf (λ k below.
    let inside : k + 1 < length items = omega (arith, length-take (length items - 1) items) in
    rw (get_or-take (length items - 1) items k MinusInf (omega arith)) (not-plus items curve k inside)))

pub list-single : (items : List Ext) → IsCurveList items → (length items == 1 && not (is_finite (item items 0))) ≡ false
list-single items curve = by (length items == 1) refl
  where
    by : (b : Bool) → (length items == 1) ≡ b → (b && not (is_finite (item items 0))) ≡ false
    by true one = let finite : is_finite (item items 0) ≡ true = curve.single_finite (grind (arith, nat_tests)) in rw finite refl
    by false other = refl

pub list-rises : (items : List Ext) → IsCurveList items → has_fall items ≡ false
unfolding has_fall
list-rises items curve =
    none-by (λ pair. not (is_below pair.0 pair.1)) (zip items (drop 2 items)) (MinusInf, MinusInf) (λ k below.
    let inside : k + 2 < length items = omega (arith, length-zip items (drop 2 items), length-drop 2 items) in
    let pair : get_or (zip items (drop 2 items)) k (MinusInf, MinusInf) ≡ (item items k, item items (k + 2)) =
    get_or-zip items (drop 2 items) k (MinusInf, MinusInf) (omega arith) (omega (arith, length-drop 2 items))
    ∙ ap (λ e. (item items k, e)) (get_or-drop 2 items k MinusInf ∙ ap (item items) (omega arith)) in
    rw pair (ap not (curve.rises k inside)))
