-- The reversed list: its item at place k is the opposite of the item that stands k places before the last, so each
-- fact by places turns into the one from the other end.
use Rattle.std.proofs.Common.{◌≡◌, ℕ, ◌+◌, ◌-◌, ◌<◌, List, [], ◌∷◌, ◌++◌, map, reverse, length, get_or, refl, sym, ap, ◌∙◌, arith}
use Rattle.std.proofs.lemmas.List.{length-map, length-reverse, reverse-append, reverse-reverse, map-append, get_or-reverse, get_or-map}
use Rattle.theory.specs.declared.ext.Ext.{Ext}
use Rattle.theory.specs.declared.ext.Ext.TheVariants.{MinusInf}
use Rattle.theory.specs.Ends.{negated}
use Rattle.theory.specs.CurveList.{item}
use Rattle.theory.specs.Views.{reversed_items}
use Rattle.theory.specs.ViewLaws.{ReversedLaw, ReversedTwiceLaw}
use Rattle.theory.proofs.Ends.{negated-negated, below-negated, finite-negated}

-- the list of one more item in front
pub reversed-more : (e : Ext) (items : List Ext) → reversed_items (e ∷ items) ≡ reversed_items items ++ negated e ∷ []
reversed-more e items = reverse-append (negated e ∷ []) (map negated items)

map-reverse : {A B : Type 0} (f : A → B) (xs : List A) → map f (reverse xs) ≡ reverse (map f xs)
map-reverse f [] = refl
map-reverse f (x ∷ xs) =
    ap (map f) (reverse-append (x ∷ []) xs)
    ∙ map-append f (reverse xs) (x ∷ [])
    ∙ ap (λ ys. ys ++ f x ∷ []) (map-reverse f xs)
    ∙ sym (reverse-append (f x ∷ []) (map f xs))

negated-each : (items : List Ext) → map negated (map negated items) ≡ items
negated-each [] = refl
negated-each (e ∷ items) = rw (negated-negated e, negated-each items)

pub reversed-items_twice : (items : List Ext) → reversed_items (reversed_items items) ≡ items
reversed-items_twice items =
    ap reverse (map-reverse negated (map negated items)) ∙ reverse-reverse (map negated (map negated items)) ∙ negated-each items

pub reversed-twice : ReversedTwiceLaw
reversed-twice c = rw (reversed-items_twice c.items)

pub length-reversed : (items : List Ext) → length (reversed_items items) ≡ length items
length-reversed items = length-reverse (map negated items) ∙ length-map items negated

-- j places before the last stands place k
pub item-reversed : (items : List Ext) (j k : ℕ) → j + k + 1 ≡ length items
    → item (reversed_items items) k ≡ negated (item items j)
item-reversed items j k e =
    let mapped : length (map negated items) ≡ length items = length-map items negated in
    let within : k < length (map negated items) = omega arith in
    let place : length (map negated items) - 1 - k ≡ j = omega arith in
    get_or-reverse (map negated items) k MinusInf within
    ∙ ap (λ i. get_or (map negated items) i MinusInf) place
    ∙ get_or-map negated items j MinusInf MinusInf (omega arith)

pub reversed-is_list : ReversedLaw
reversed-is_list items list =
    let same : length (reversed_items items) ≡ length items = length-reversed items in
    record {
      odd = rw same list.odd;
      rises = λ k h. (
          let j = length items - 1 - (k + 2) in
          let later = item-reversed items (j + 2) k (omega arith) in
          let earlier = item-reversed items j (k + 2) (omega arith) in
          rw (later, earlier) (below-negated (item items j) (item items (j + 2)) (list.rises j (omega arith))));
      inner_finite = λ k positive h. (
          let j = length items - 1 - k in
          rw (item-reversed items j k (omega arith), finite-negated (item items j)) (list.inner_finite j (omega arith) (omega arith)));
      single_finite = λ h. (rw (item-reversed items 0 0 (omega arith), finite-negated (item items 0)) (list.single_finite (omega arith)));
    }
