-- Ends, span and pairs of the reversed curve. A list whose points have a whole slope between any two is reversed by
-- putting its first slope and point, negated, behind the rest reversed; so what is known of a list with one slope and one
-- point more behind it gives, by induction, what is known of the reversed list.
use Rattle.std.proofs.Common.{◌≡◌, ℕ, ℤ, pos, ◌*ℤ◌, ◌≤ℤ◌, neg_ℤ, List, [], ◌∷◌, ◌++◌, refl, sym, ap, ap₂, ◌∙◌, arith}
use Rattle.std.specs.Prelude.{if◌then◌else◌}
use Rattle.std.proofs.lemmas.List.{append_assoc}
use Rattle.std.proofs.Math.IntN.{neg_ℤ-neg_ℤ}
use Rattle.theory.specs.declared.ext.Ext.{Ext}
use Rattle.theory.specs.declared.ext.Ext.TheVariants.{MinusInf, At, PlusInf}
use Rattle.theory.specs.Sums.{Each}
use Rattle.theory.specs.Ends.{is_finite, IsAtLeast, IsAtMost, IsBetween, IsPast, IsBefore, negated}
use Rattle.theory.specs.CurveList.{IsCurveList, Piece, pieces, first, last, before_last}
use Rattle.theory.specs.Span.{span_low, span_high}
use Rattle.theory.specs.OnCurve.{FitsPiece, IsOnCurve}
use Rattle.theory.specs.Views.{reversed_items}
use Rattle.theory.proofs.Rings.{rings}
use Rattle.theory.proofs.Sums.{Each-map}
use Rattle.theory.proofs.Ends.{negated-negated}
use Rattle.theory.proofs.Shape.{Rest, ends, goes_on, Shape, single, long, shape_by_place}
use Rattle.theory.proofs.ReversedList.{reversed-more, reversed-items_twice, reversed-is_list}

-- ---- lists of points with a whole slope between any two

pub data Alternating : List Ext → Type 0 where
  point : {p : Ext} → Alternating (p ∷ [])
  longer : {p r : Ext} {s : ℤ} {rest : List Ext} → Alternating (r ∷ rest) → Alternating (p ∷ At s ∷ r ∷ rest)

alternating_rest : {s : ℤ} {m : Ext} {rest : List Ext} → Rest s m rest → Alternating (m ∷ rest)
alternating_rest ends = point
alternating_rest (goes_on rises below more) = longer (alternating_rest more)

pub alternating : {items : List Ext} → Shape items → Alternating items
alternating single = point
alternating (long below more) = longer (alternating_rest more)

alternating-added : (s : ℤ) (r : Ext) {items : List Ext} → Alternating items → Alternating (items ++ At s ∷ r ∷ [])
alternating-added s r point = longer point
alternating-added s r (longer more) = longer (alternating-added s r more)

-- the reversed list of a point and a slope in front of others
pub reversed-two_more : (p : Ext) (s : ℤ) (items : List Ext) → reversed_items (p ∷ At s ∷ items) ≡ reversed_items items ++ At (neg_ℤ s) ∷ negated p ∷ []
reversed-two_more p s items =
    reversed-more p (At s ∷ items)
    ∙ ap (λ l. l ++ negated p ∷ []) (reversed-more (At s) items)
    ∙ append_assoc (reversed_items items) (At (neg_ℤ s) ∷ []) (negated p ∷ [])

pub alternating-reversed : {items : List Ext} → Alternating items → Alternating (reversed_items items)
alternating-reversed point = point
alternating-reversed (longer {p = p} {r = r} {s = s} {rest = rest} more) =
    rw (reversed-two_more p s (r ∷ rest)) (alternating-added (neg_ℤ s) (negated p) (alternating-reversed more))

-- ---- the ends

last-added : (s : Ext) (r : Ext) {items : List Ext} → Alternating items → last (items ++ s ∷ r ∷ []) ≡ r
last-added s r point = refl
last-added s r (longer {r = m} more) = last-added s r more

pub last-reversed_of : {items : List Ext} → Alternating items → last (reversed_items items) ≡ negated (first items)
last-reversed_of point = refl
last-reversed_of (longer {p = p} {r = r} {s = s} {rest = rest} more) =
    rw (reversed-two_more p s (r ∷ rest)) (last-added (At (neg_ℤ s)) (negated p) (alternating-reversed more))

first-added : (others : List Ext) {items : List Ext} → Alternating items → first (items ++ others) ≡ first items
first-added others point = refl
first-added others (longer more) = refl

pub first-reversed_of : {items : List Ext} → Alternating items → first (reversed_items items) ≡ negated (last items)
first-reversed_of point = refl
first-reversed_of (longer {p = p} {r = r} {s = s} {rest = rest} more) =
    rw (reversed-two_more p s (r ∷ rest))
    (first-added (At (neg_ℤ s) ∷ negated p ∷ []) (alternating-reversed more) ∙ first-reversed_of more)

pub first-reversed : (items : List Ext) → IsCurveList items → first (reversed_items items) ≡ negated (last items)
first-reversed items list = first-reversed_of (alternating (shape_by_place items list))

pub last-reversed : (items : List Ext) → IsCurveList items → last (reversed_items items) ≡ negated (first items)
last-reversed items list = last-reversed_of (alternating (shape_by_place items list))

-- ---- the ends of the span

before_last-added : (s r : Ext) {items : List Ext} → Alternating items → before_last (items ++ s ∷ r ∷ []) ≡ s
before_last-added s r point = refl
before_last-added s r (longer point) = refl
before_last-added s r (longer (longer {p = m} more)) = before_last-added s r (longer {p = m} more)

span_high_of : {items : List Ext} → Alternating items → span_high (reversed_items items) ≡ negated (span_low items)
span_high_of (point {p = MinusInf}) = refl
span_high_of (point {p = At a}) = refl
span_high_of (point {p = PlusInf}) = refl
span_high_of (longer {p = p} {r = r} {s = s} {rest = rest} more) =
    let end = last-reversed_of (longer {p = p} {s = s} more) in
    let slope = before_last-added (At (neg_ℤ s)) (negated p) (alternating-reversed more) in
    let both : before_last (reversed_items (p ∷ At s ∷ r ∷ rest)) ≡ At (neg_ℤ s) = rw (reversed-two_more p s (r ∷ rest)) slope in
    ap₂ (λ e b. if is_finite e then PlusInf else b) end both ∙ ends_at p s
  where
    ends_at : (e : Ext) (s : ℤ) → (if is_finite (negated e) then PlusInf else At (neg_ℤ s)) ≡ negated (if is_finite e then MinusInf else At s)
    ends_at MinusInf s = refl
    ends_at (At a) s = refl
    ends_at PlusInf s = refl

pub span_high-reversed : (items : List Ext) → IsCurveList items → span_high (reversed_items items) ≡ negated (span_low items)
span_high-reversed items list = span_high_of (alternating (shape_by_place items list))

pub span_low-reversed : (items : List Ext) → IsCurveList items → span_low (reversed_items items) ≡ negated (span_high items)
span_low-reversed items list =
    let other = span_high-reversed (reversed_items items) (reversed-is_list items list) in
    let back = ap span_high (reversed-items_twice items) in
    sym (negated-negated (span_low (reversed_items items))) ∙ ap negated (sym other ∙ back)

-- ---- the pieces, and the pairs

-- a piece, turned
abbrev pub turned : Piece → Piece
turned k = record { left = negated k.right; slope = neg_ℤ k.slope; right = negated k.left }

each-added : (P : Piece → Type 0) (s : ℤ) (r : Ext) {items : List Ext} → Alternating items
    → Each P (pieces items) → P (record { left = last items; slope = s; right = r }) → Each P (pieces (items ++ At s ∷ r ∷ []))
each-added P s r point each one = (one, tt)
each-added P s r (longer more) each one = (each.0, each-added P s r more each.1 one)

each-reversed : (P : Piece → Type 0) {items : List Ext} → Alternating items → Each (λ k. P (turned k)) (pieces items) → Each P (pieces (reversed_items items))
each-reversed P point each = tt
each-reversed P (longer {p = p} {r = r} {s = s} {rest = rest} more) each =
    rw (reversed-two_more p s (r ∷ rest))
    (each-added P (neg_ℤ s) (negated p) (alternating-reversed more) (each-reversed P more each.1) (rw (last-reversed_of more) each.0))

past-negated : (q : ℕ) (e : Ext) (x : ℤ) → IsPast q (negated e) (neg_ℤ x) → IsBefore q e x
past-negated q MinusInf x past = tt
past-negated q (At a) x past = omega (arith, rings)
past-negated q PlusInf x past = tt

before-negated : (q : ℕ) (e : Ext) (x : ℤ) → IsBefore q (negated e) (neg_ℤ x) → IsPast q e x
before-negated q MinusInf x before = tt
before-negated q (At a) x before = omega (arith, rings)
before-negated q PlusInf x before = tt

least-negated : (q : ℕ) (e : Ext) (x : ℤ) → IsAtMost q e x → IsAtLeast q (negated e) (neg_ℤ x)
least-negated q MinusInf x most = tt
least-negated q (At a) x most = omega (arith, rings)
least-negated q PlusInf x most = tt

most-negated : (q : ℕ) (e : Ext) (x : ℤ) → IsAtLeast q e x → IsAtMost q (negated e) (neg_ℤ x)
most-negated q MinusInf x least = tt
most-negated q (At a) x least = omega (arith, rings)
most-negated q PlusInf x least = tt

pub between-negated : (q : ℕ) (low high : Ext) (x : ℤ) → IsBetween q low high x → IsBetween q (negated high) (negated low) (neg_ℤ x)
between-negated q low high x within = record { least = least-negated q high x within.most; most = most-negated q low x within.least }

fits-turned : (q : ℕ) (x v : ℤ) (k : Piece) → FitsPiece q x v k → FitsPiece q (neg_ℤ x) (neg_ℤ v) (turned k)
fits-turned q x v k fits =
    record {
      begins_below = λ past. (let flat = fits.ends_above (past-negated q k.right x past) in opposite (pos q) k.slope v flat);
      ends_above = λ before. (let steep = fits.begins_below (before-negated q k.left x before) in opposed (pos q) k.slope v steep);
    }
  where
    opposite : (q s v : ℤ) → v ≤ℤ (q *ℤ s) → (q *ℤ neg_ℤ s) ≤ℤ neg_ℤ v
    opposite q s v h = omega (arith, rings)

    opposed : (q s v : ℤ) → (q *ℤ s) ≤ℤ v → neg_ℤ v ≤ℤ (q *ℤ neg_ℤ s)
    opposed q s v h = omega (arith, rings)

-- the opposites of a pair of the curve are a pair of the reversed curve
pub reversed-pair : (q : ℕ) (items : List Ext) (x v : ℤ) → IsCurveList items → IsOnCurve q items x v → IsOnCurve q (reversed_items items) (neg_ℤ x) (neg_ℤ v)
reversed-pair q items x v list pair =
    let turns = alternating (shape_by_place items list) in
    record {
      in_domain = rw (first-reversed_of turns, last-reversed_of turns) (between-negated q (first items) (last items) x pair.in_domain);
      on_pieces = each-reversed (FitsPiece q (neg_ℤ x) (neg_ℤ v)) turns (Each-map (FitsPiece q x v) (λ k. FitsPiece q (neg_ℤ x) (neg_ℤ v) (turned k)) (pieces items) (fits-turned q x v) pair.on_pieces);
    }

-- ---- pairs both ways, at a scale of 1

pub pair_from_reversed : (items : List Ext) (x v : ℤ) → IsCurveList items → IsOnCurve 1 (reversed_items items) x v → IsOnCurve 1 items (neg_ℤ x) (neg_ℤ v)
pair_from_reversed items x v list pair =
    rw (reversed-items_twice items) at (reversed-pair 1 (reversed_items items) x v (reversed-is_list items list) pair)

pub pair_to_reversed : (items : List Ext) (x v : ℤ) → IsCurveList items → IsOnCurve 1 items (neg_ℤ x) (neg_ℤ v) → IsOnCurve 1 (reversed_items items) x v
pair_to_reversed items x v list pair =
    rw (neg_ℤ-neg_ℤ x, neg_ℤ-neg_ℤ v) at (reversed-pair 1 items (neg_ℤ x) (neg_ℤ v) list pair)
