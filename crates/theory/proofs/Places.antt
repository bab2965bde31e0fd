-- A list read by places: its ends, and its pieces by their numbers. Piece k stands between the points at 2 k and 2 k + 2 with
-- its slope at 2 k + 1. Without its first point and slope the list has the same pieces, each with a number one lower
-- (`piece_at-later`). So by induction on the list's shape a sum over the pieces is a sum over their numbers, its first term
-- apart, and what holds of each piece holds of each number below their count, and the other way round. A pair of the curve
-- is then a flow in the domain that fits with the tension at each number.
use Rattle.std.proofs.Common.{◌≡◌, ℕ, zero, suc, ◌+◌, ◌*◌, ◌/◌, ◌<◌, ◌≤◌, ℤ, true, false, List, [], ◌∷◌, length, refl, sym, ap, subst, arith}
use Rattle.std.proofs.lemmas.Int.{ints}
use Rattle.theory.specs.declared.ext.Ext.{Ext}
use Rattle.theory.specs.declared.ext.Ext.TheVariants.{At}
use Rattle.theory.specs.Ends.{is_finite, IsBetween}
use Rattle.theory.specs.Sums.{sum_over, sum_below, Each}
use Rattle.theory.specs.CurveList.{IsCurveList, Piece, pieces, item, first, last, before_last}
use Rattle.theory.specs.OnCurve.{FitsPiece, IsOnCurve}
use Rattle.theory.specs.PieceAt.{piece_at}
use Rattle.theory.proofs.SumsBelow.{sum_below-front, sum_below-same}
use Rattle.theory.proofs.Shape.{Shape, Rest, ends, goes_on, single, long, rest_even, shape_by_place}

-- ---- the ends

pub first_at : (items : List Ext) → item items 0 ≡ first items
first_at [] = refl
first_at (p ∷ rest) = refl

pub last_at : (items : List Ext) (n : ℕ) → n + 1 ≡ length items → item items n ≡ last items
last_at [] n e = absurd (omega arith)
last_at (p ∷ []) zero e = refl
last_at (p ∷ []) (suc n) e = absurd (omega arith)
last_at (p ∷ r ∷ rest) zero e = absurd (omega arith)
last_at (p ∷ r ∷ rest) (suc n) e = last_at (r ∷ rest) n (omega arith)

pub before_last_at : (items : List Ext) (n : ℕ) → n + 2 ≡ length items → item items n ≡ before_last items
before_last_at [] n e = absurd (omega arith)
before_last_at (p ∷ []) n e = absurd (omega arith)
before_last_at (s ∷ p ∷ []) zero e = refl
before_last_at (s ∷ p ∷ []) (suc n) e = absurd (omega arith)
before_last_at (p ∷ s ∷ r ∷ rest) zero e = absurd (omega arith)
before_last_at (p ∷ s ∷ r ∷ rest) (suc n) e = before_last_at (s ∷ r ∷ rest) n (omega arith)

-- a list that has an infinite end is longer than one item
pub longer : (items : List Ext) → IsCurveList items → is_finite (last items) ≡ false → 3 ≤ length items
longer [] list endless = absurd (omega (arith, list.odd))
longer (p ∷ []) list endless = let single : is_finite p ≡ true = list.single_finite refl in cc
longer (p ∷ s ∷ []) list endless = absurd (omega (arith, list.odd))
longer (p ∷ s ∷ r ∷ rest) list endless = omega arith

-- ---- the pieces

piece_at-later : (p s : Ext) (items : List Ext) (k : ℕ) → piece_at (p ∷ s ∷ items) (suc k) ≡ piece_at items k
piece_at-later p s items k =
    let a : 2 * suc k ≡ suc (suc (2 * k)) = omega arith in
    let b : 2 * suc k + 1 ≡ suc (suc (2 * k + 1)) = omega arith in
    let c : 2 * suc k + 2 ≡ suc (suc (2 * k + 2)) = omega arith in
    rw (b, c, a) refl

rest_sum : (f : Piece → ℤ) {s : ℤ} {m : Ext} {rest : List Ext} → Rest s m rest → sum_over f (pieces (m ∷ rest)) ≡ sum_below (length rest / 2) (λ k. f (piece_at (m ∷ rest) k))
rest_sum f ends = refl
rest_sum f (goes_on {t = t} {b = b} {r = r} {rest = rest} rises below more) =
    let items = At b ∷ At t ∷ r ∷ rest in
    let half : length (At t ∷ r ∷ rest) / 2 ≡ suc (length rest / 2) = omega arith in
    let front = sum_below-front (length rest / 2) (λ k. f (piece_at items k)) in
    let later = sum_below-same (length rest / 2) (λ k. f (piece_at items (suc k))) (λ k. f (piece_at (r ∷ rest) k)) (λ k there. ap f (piece_at-later (At b) (At t) (r ∷ rest) k)) in
    let tail = rest_sum f more in
    rw half (omega (arith, ints))

long_sum : (f : Piece → ℤ) {s : ℤ} {m : Ext} {rest : List Ext} (l : Ext) → Rest s m rest
    → sum_over f (pieces (l ∷ At s ∷ m ∷ rest)) ≡ sum_below (length (l ∷ At s ∷ m ∷ rest) / 2) (λ k. f (piece_at (l ∷ At s ∷ m ∷ rest) k))
long_sum f {s = s} {m = m} {rest = rest} l more =
    let items = l ∷ At s ∷ m ∷ rest in
    let half : length (l ∷ At s ∷ m ∷ rest) / 2 ≡ suc (length rest / 2) = omega (arith, rest_even more) in
    let front = sum_below-front (length rest / 2) (λ k. f (piece_at items k)) in
    let later = sum_below-same (length rest / 2) (λ k. f (piece_at items (suc k))) (λ k. f (piece_at (m ∷ rest) k)) (λ k there. ap f (piece_at-later l (At s) (m ∷ rest) k)) in
    let tail = rest_sum f more in
    rw half (omega (arith, ints))

shape_sum : (f : Piece → ℤ) {items : List Ext} → Shape items → sum_over f (pieces items) ≡ sum_below (length items / 2) (λ k. f (piece_at items k))
shape_sum f single = refl
shape_sum f (long {l = l} below more) = long_sum f l more

-- a sum over the pieces goes by their numbers
pub sum_over-pieces : (f : Piece → ℤ) (items : List Ext) → IsCurveList items → sum_over f (pieces items) ≡ sum_below (length items / 2) (λ k. f (piece_at items k))
sum_over-pieces f items list = shape_sum f (shape_by_place items list)

rest_each : (P : Piece → Type 0) {s : ℤ} {m : Ext} {rest : List Ext} → Rest s m rest → ((k : ℕ) → k < length rest / 2 → P (piece_at (m ∷ rest) k)) → Each P (pieces (m ∷ rest))
rest_each P ends each = tt
rest_each P (goes_on {t = t} {b = b} {r = r} {rest = rest} rises below more) each =
    (each 0 (omega arith), rest_each P more (λ k h. let inside : suc k < length (At t ∷ r ∷ rest) / 2 = omega arith in subst P (piece_at-later (At b) (At t) (r ∷ rest) k) (each (suc k) inside)))

shape_each : (P : Piece → Type 0) {items : List Ext} → Shape items → ((k : ℕ) → k < length items / 2 → P (piece_at items k)) → Each P (pieces items)
shape_each P single each = tt
shape_each P (long {l = l} {m = m} {s = s} {rest = rest} below more) each =
    (each 0 (omega arith), rest_each P more (λ k h. let inside : suc k < length (l ∷ At s ∷ m ∷ rest) / 2 = omega arith in subst P (piece_at-later l (At s) (m ∷ rest) k) (each (suc k) inside)))

-- a fact of each piece, from their numbers
pub each_piece : (P : Piece → Type 0) (items : List Ext) → IsCurveList items → ((k : ℕ) → k < length items / 2 → P (piece_at items k)) → Each P (pieces items)
each_piece P items list each = shape_each P (shape_by_place items list) each

rest_each_at : (P : Piece → Type 0) {s : ℤ} {m : Ext} {rest : List Ext} → Rest s m rest → Each P (pieces (m ∷ rest)) → (k : ℕ) → k < length rest / 2 → P (piece_at (m ∷ rest) k)
rest_each_at P ends each k h = absurd (omega arith)
rest_each_at P (goes_on rises below more) each zero h = each.0
rest_each_at P (goes_on {t = t} {b = b} {r = r} {rest = rest} rises below more) each (suc k) h =
    subst P (sym (piece_at-later (At b) (At t) (r ∷ rest) k)) (rest_each_at P more each.1 k (omega arith))

shape_each_at : (P : Piece → Type 0) {items : List Ext} → Shape items → Each P (pieces items) → (k : ℕ) → k < length items / 2 → P (piece_at items k)
shape_each_at P single each k h = absurd (omega arith)
shape_each_at P (long below more) each zero h = each.0
shape_each_at P (long {l = l} {m = m} {s = s} {rest = rest} below more) each (suc k) h =
    subst P (sym (piece_at-later l (At s) (m ∷ rest) k)) (rest_each_at P more each.1 k (omega (arith, rest_even more)))

-- and back
pub each_piece-at : (P : Piece → Type 0) (items : List Ext) → IsCurveList items → Each P (pieces items) → (k : ℕ) → k < length items / 2 → P (piece_at items k)
each_piece-at P items list each = shape_each_at P (shape_by_place items list) each

-- ---- the pairs of the curve

pub on_curve_by_pieces : (items : List Ext) (x v : ℤ) → IsCurveList items → IsBetween 1 (first items) (last items) x → ((k : ℕ) → k < length items / 2 → FitsPiece 1 x v (piece_at items k)) → IsOnCurve 1 items x v
on_curve_by_pieces items x v list inside each = record { in_domain = inside; on_pieces = each_piece (FitsPiece 1 x v) items list each }

pub piece_on_curve : (items : List Ext) (x v : ℤ) → IsCurveList items → IsOnCurve 1 items x v → (k : ℕ) → k < length items / 2 → FitsPiece 1 x v (piece_at items k)
piece_on_curve items x v list on k h = each_piece-at (FitsPiece 1 x v) items list on.on_pieces k h
