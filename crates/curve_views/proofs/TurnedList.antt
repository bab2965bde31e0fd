-- The conjugate list by places: its length, and its items. Behind the front end it has the items of the list in their
-- order, and past the last of them plus infinity.
use Rattle.std.proofs.Common.{◌≡◌, ℕ, zero, suc, ◌+◌, ◌-◌, ◌<◌, ◌≤◌, ℤ, true, false, List, [], ◌∷◌, length, refl, sym, subst, add-one, arith}
use Rattle.std.specs.Prelude.{slice_index_or}
use Rattle.theory.specs.declared.ext.Ext.{Ext}
use Rattle.theory.specs.declared.ext.Ext.TheVariants.{MinusInf, At, PlusInf}
use Rattle.theory.specs.Ends.{is_finite, IsBelow}
use Rattle.theory.specs.CurveList.{IsCurveList, item, first, last}
use Rattle.theory.specs.Views.{turned_back, conjugate_items}
use Rattle.theory.proofs.Ends.{nothing_below}
use Rattle.theory.proofs.Shape.{Rest, ends, goes_on, Shape, single, long, shape_by_place}
use Rattle.curve_views.specs.Turned.{turned_length}

-- ---- its length

two_more : (e : Ext) (n : ℕ) → 1 ≤ n → suc (suc (turned_length e n)) ≡ turned_length e (suc (suc n))
two_more MinusInf n some = omega arith
two_more (At a) n some = omega arith
two_more PlusInf n some = omega arith

length-turned : {s : ℤ} {m : Ext} {rest : List Ext} (l : Ext) → IsBelow l m → Rest s m rest → length (turned_back (m ∷ rest)) ≡ turned_length (last (m ∷ rest)) (suc (length rest))
length-turned {m = MinusInf} l below ends = absurd (nothing_below l below)
length-turned {m = At b} l below ends = refl
length-turned {m = PlusInf} l below ends = refl
length-turned l below (goes_on {b = b} {r = r} {rest = rest} rises next more) =
    let e = length-turned (At b) next more in
    rw e (two_more (last (r ∷ rest)) (suc (length rest)) (omega arith))

without_front : (e : Ext) (n x : ℕ) → x ≡ turned_length e (suc n) → suc x ≡ turned_length e (suc (suc (suc n)) - 1)
without_front MinusInf n x h = omega arith
without_front (At a) n x h = omega arith
without_front PlusInf n x h = omega arith

with_front : (e : Ext) (n x : ℕ) → x ≡ turned_length e (suc n) → suc (suc (suc x)) ≡ turned_length e (suc (suc (suc n)) + 1)
with_front MinusInf n x h = omega arith
with_front (At a) n x h = omega arith
with_front PlusInf n x h = omega arith

length_of_shape : {items : List Ext} → Shape items → length (conjugate_items items) ≡ turned_length (last items) (turned_length (first items) (length items))
length_of_shape single = refl
length_of_shape (long {l = MinusInf} {m = m} {rest = rest} below more) =
    without_front (last (m ∷ rest)) (length rest) (length (turned_back (m ∷ rest))) (length-turned MinusInf below more)
length_of_shape (long {l = At a} {m = m} {rest = rest} below more) =
    with_front (last (m ∷ rest)) (length rest) (length (turned_back (m ∷ rest))) (length-turned (At a) below more)
length_of_shape (long {l = PlusInf} below more) = let h : false ≡ true = below in cc

pub length-conjugate : (items : List Ext) → IsCurveList items → length (conjugate_items items) ≡ turned_length (last items) (turned_length (first items) (length items))
length-conjugate items list = length_of_shape (shape_by_place items list)

-- ---- its items

item-turned : (items : List Ext) (i : ℕ) → i < length (turned_back items) → item (turned_back items) i ≡ slice_index_or items i PlusInf
item-turned [] i inside = absurd (omega arith)
item-turned (MinusInf ∷ []) zero inside = refl
item-turned (MinusInf ∷ []) (suc zero) inside = refl
item-turned (MinusInf ∷ []) (suc (suc i)) inside = absurd (omega arith)
item-turned (At b ∷ []) zero inside = refl
item-turned (At b ∷ []) (suc zero) inside = refl
item-turned (At b ∷ []) (suc (suc i)) inside = absurd (omega arith)
item-turned (PlusInf ∷ []) i inside = absurd (omega arith)
item-turned (p ∷ r ∷ rest) zero inside = refl
item-turned (p ∷ r ∷ rest) (suc i) inside = item-turned (r ∷ rest) i (omega arith)

endless_of_shape : {items : List Ext} → Shape items → is_finite (first items) ≡ false → (i : ℕ) → i < length (conjugate_items items)
    → item (conjugate_items items) i ≡ slice_index_or items (suc i) PlusInf
endless_of_shape single endless i inside = cc
endless_of_shape (long {l = MinusInf} {m = m} {s = s} {rest = rest} below more) endless i inside = item-turned (At s ∷ m ∷ rest) i inside
endless_of_shape (long {l = At a} below more) endless i inside = cc
endless_of_shape (long {l = PlusInf} below more) endless i inside = let h : false ≡ true = below in cc

ended_of_shape : {items : List Ext} → Shape items → is_finite (first items) ≡ true → (i : ℕ) → suc i < length (conjugate_items items)
    → item (conjugate_items items) (suc i) ≡ slice_index_or items i PlusInf
ended_of_shape (single {p = p}) ended i inside = item-turned (MinusInf ∷ At p ∷ []) (suc i) inside
ended_of_shape (long {l = MinusInf} below more) ended i inside = cc
ended_of_shape (long {l = At a} {m = m} {s = s} {rest = rest} below more) ended i inside = item-turned (MinusInf ∷ At a ∷ At s ∷ m ∷ rest) (suc i) inside
ended_of_shape (long {l = PlusInf} below more) ended i inside = let h : false ≡ true = below in cc

first_of_shape : {items : List Ext} → Shape items → is_finite (first items) ≡ true → item (conjugate_items items) 0 ≡ MinusInf
first_of_shape single ended = refl
first_of_shape (long {l = MinusInf} below more) ended = cc
first_of_shape (long {l = At a} below more) ended = refl
first_of_shape (long {l = PlusInf} below more) ended = cc

-- without a front end the items stand one place before those of the list
pub item-endless : (items : List Ext) → IsCurveList items → is_finite (first items) ≡ false → (i : ℕ) → i < length (conjugate_items items)
    → item (conjugate_items items) i ≡ slice_index_or items (i + 1) PlusInf
item-endless items list endless i inside = rw add-one (endless_of_shape (shape_by_place items list) endless i inside)

-- with one they stand one place behind
pub item-ended : (items : List Ext) → IsCurveList items → is_finite (first items) ≡ true → (i : ℕ) → 0 < i → i < length (conjugate_items items)
    → item (conjugate_items items) i ≡ slice_index_or items (i - 1) PlusInf
item-ended items list ended i positive inside =
    let e : i ≡ suc (i - 1) = omega arith in
    subst (λ (k : ℕ). item (conjugate_items items) k ≡ slice_index_or items (i - 1) PlusInf) (sym e)
    (ended_of_shape (shape_by_place items list) ended (i - 1) (omega arith))

-- and minus infinity stands in front of them
pub first-ended : (items : List Ext) → IsCurveList items → is_finite (first items) ≡ true → item (conjugate_items items) 0 ≡ MinusInf
first-ended items list ended = first_of_shape (shape_by_place items list) ended
