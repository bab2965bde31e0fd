-- Equality in Fenchel's inequality, exactly on the curve.
-- On the curve: the pair supports the cost at each listed point, so no value among which the conjugate cost is the
-- greatest passes flow times tension less the cost. The converse: let b be the listed flow of the tension. The shares of
-- the pieces between q b and the flow are not negative, and an equation leaves 0 for their sum, so each is 0: a piece
-- has the tension as its slope, or the two flows stand at one place of it and fit it together.
use Rattle.std.proofs.Common.{◌≡◌, ℕ, ◌≤◌, true, false, ℤ, pos, ◌+ℤ◌, ◌≤ℤ◌, ◌<ℤ◌, List, [], ◌∷◌, refl, sym, arith}
use Rattle.std.specs.Prelude.{◌-ℤ◌, ◌*ℤ◌}
use Rattle.std.proofs.lemmas.Int.{ints, clamps, by_lt_z}
use Rattle.theory.specs.declared.ext.Ext.{Ext}
use Rattle.theory.specs.declared.ext.Ext.TheVariants.{MinusInf, At, PlusInf}
use Rattle.theory.specs.Ends.{IsBelow, IsAtLeast, IsAtMost, IsBetween, IsPast, IsBefore}
use Rattle.theory.specs.CurveList.{IsCurveList, Listing, Piece, pieces, last}
use Rattle.theory.specs.Domain.{InDomain, clip, rest_point}
use Rattle.theory.specs.Span.{InSpan, span_low}
use Rattle.theory.specs.Sums.{sum_over, greatest_over, Each}
use Rattle.theory.specs.Cost.{cost}
use Rattle.theory.specs.OnCurve.{IsOnCurve, FitsPiece}
use Rattle.theory.specs.ConjugateCost.{finite_points, or_one, listed_points, conjugate_cost}
use Rattle.theory.specs.CurveLaws.{FenchelEqualityLaw}
use Rattle.theory.proofs.Rings.{rings, scale_mono, mul_zero_right}
use Rattle.theory.proofs.Sums.{Each-map, Each-zip, sum_zeros, greatest_at, greatest_most, greatest_over-scale}
use Rattle.theory.proofs.Shape.{Rest, ends, goes_on, Shape, single, long, shape_by_place, pieces_below}
use Rattle.theory.proofs.Ends.{below_trans}
use Rattle.theory.proofs.ZeroCost.{below_last}
use Rattle.theory.proofs.Clip.{clip_past_same, clip_before_same, clip_between, clip-scale}
use Rattle.theory.proofs.Pairs.{least_before, most_after, most_last, high_from, flow_of}
use Rattle.theory.proofs.Fenchel.{way, share, value, share_positive, shares, supports, fenchel}

-- ---- a tension of the curve is in the span

high_in_span : (q : ℕ) (x w : ℤ) (l : Ext) {s : ℤ} {m : Ext} {rest : List Ext} → Rest s m rest
    → Each (FitsPiece q x w) (pieces (l ∷ At s ∷ m ∷ rest)) → IsAtMost q (high_from (At s) (m ∷ rest)) w
high_in_span q x w l (ends {m = MinusInf}) fits = fits.0.ends_above tt
high_in_span q x w l (ends {m = At b}) fits = tt
high_in_span q x w l (ends {m = PlusInf}) fits = fits.0.ends_above tt
high_in_span q x w l (goes_on {b = b} rises next more) fits = high_in_span q x w (At b) more fits.1

low_in_span : (q : ℕ) (x w : ℤ) (l m : Ext) (s : ℤ) (rest : List Ext)
    → Each (FitsPiece q x w) (pieces (l ∷ At s ∷ m ∷ rest)) → IsAtLeast q (span_low (l ∷ At s ∷ m ∷ rest)) w
low_in_span q x w MinusInf m s rest fits = fits.0.begins_below tt
low_in_span q x w (At a) m s rest fits = tt
low_in_span q x w PlusInf m s rest fits = fits.0.begins_below tt

pub in_span : (q : ℕ) (x w : ℤ) {items : List Ext} → Shape items → IsOnCurve q items x w → InSpan q items w
in_span q x w single pair = record { least = tt; most = tt }
in_span q x w (long {l = l} {m = m} {s = s} {rest = rest} below more) pair =
    record { least = low_in_span q x w l m s rest pair.on_pieces; most = high_in_span q x w l more pair.on_pieces }

-- ---- the listed points are in the domain

single_rest : (p : ℤ) → rest_point (At p ∷ []) ≡ p
single_rest p = omega (arith, ints, clamps)

pub rest_in_domain : (q : ℕ) {items : List Ext} → Shape items → InDomain q items (pos q *ℤ rest_point items)
rest_in_domain q (single {p = p}) = let e = single_rest p in rw e (record { least = omega (arith, ints); most = omega (arith, ints) })
rest_in_domain q (long {l = l} {m = m} {rest = rest} below more) =
    rw (sym (clip-scale q l (last (m ∷ rest)) (pos 0))) (clip_between q l (last (m ∷ rest)) (pos q *ℤ pos 0) (below_last l below more))

least_at : (q : ℕ) (l : Ext) (b : ℤ) → IsBelow l (At b) → IsAtLeast q l (pos q *ℤ b)
least_at q l b below = least_before q l (At b) (pos q *ℤ b) below (λ before. omega (arith, ints))

points_between : (q : ℕ) (l : Ext) {s : ℤ} {m : Ext} {rest : List Ext} → IsBelow l m → Rest s m rest
    → Each (λ b. IsBetween q l (last (m ∷ rest)) (pos q *ℤ b)) (finite_points (m ∷ rest))
points_between q l below (ends {m = MinusInf}) = tt
points_between q l below (ends {m = At b}) = (record { least = least_at q l b below; most = omega (arith, ints) }, tt)
points_between q l below (ends {m = PlusInf}) = tt
points_between q l below (goes_on {b = b} {r = r} rises next more) = (
  record { least = least_at q l b below; most = most_last q (pos q *ℤ b) more (most_after q b r (pos q *ℤ b) next (omega (arith, ints))) },
  points_between q l (below_trans l (At b) r below next) more,
)

each_or_one : (P : ℤ → Type 0) (points : List ℤ) (x : ℤ) → Each P points → P x → Each P (or_one points x)
each_or_one P [] x each one = (one, tt)
each_or_one P (a ∷ points) x each one = each

pub listed_in_domain : (q : ℕ) {items : List Ext} → Shape items → Each (λ b. InDomain q items (pos q *ℤ b)) (listed_points items)
listed_in_domain q single = (record { least = omega (arith, ints); most = omega (arith, ints) }, tt)
listed_in_domain q (long {l = MinusInf} {m = m} {s = s} {rest = rest} below more) =
    each_or_one
    (λ b. InDomain q (MinusInf ∷ At s ∷ m ∷ rest) (pos q *ℤ b))
    (finite_points (m ∷ rest))
    (rest_point (MinusInf ∷ At s ∷ m ∷ rest))
    (points_between q MinusInf below more)
    (rest_in_domain q (long below more))
listed_in_domain q (long {l = At a} {m = m} below more) =
    (record { least = omega (arith, ints); most = most_last q (pos q *ℤ a) more (most_after q a m (pos q *ℤ a) below (omega (arith, ints))) }, points_between q (At a) below more)
listed_in_domain q (long {l = PlusInf} below more) = let h : false ≡ true = below in cc

greatest_or_one : (f : ℤ → ℤ) (z x : ℤ) (points : List ℤ) → Each (λ y. f y ≤ℤ z) (or_one points x) → greatest_over f (or_one points x) ≤ℤ z
greatest_or_one f z x [] each = greatest_most f z x [] each
greatest_or_one f z x (a ∷ points) each = greatest_most f z a points each

-- ---- equality on the curve

spread_value : (q w b f g x : ℤ) → (w *ℤ (q *ℤ b) +ℤ q *ℤ g) ≤ℤ (w *ℤ x +ℤ q *ℤ f) → (q *ℤ (w *ℤ b -ℤ f)) ≤ℤ (w *ℤ x -ℤ q *ℤ g)
spread_value q w b f g x h = omega (arith, rings)

closed : (q f h x w : ℤ) → (x *ℤ w) ≤ℤ (q *ℤ f +ℤ q *ℤ h) → (q *ℤ h) ≤ℤ (w *ℤ x -ℤ q *ℤ f) → q *ℤ f +ℤ q *ℤ h ≡ x *ℤ w
closed q f h x w least most = omega (arith, rings)

each_value : (q : ℕ) (c : Listing) (x w : ℤ) → Shape c.items → IsOnCurve q c.items x w
    → Each (λ b. (pos q *ℤ value q c w b) ≤ℤ (w *ℤ x -ℤ pos q *ℤ cost q c x)) (listed_points c.items)
each_value q c x w shape pair =
    Each-map
    (λ b. InDomain q c.items (pos q *ℤ b))
    (λ b. (pos q *ℤ value q c w b) ≤ℤ (w *ℤ x -ℤ pos q *ℤ cost q c x))
    (listed_points c.items)
    (λ b within. spread_value (pos q) w b (cost q c (pos q *ℤ b)) (cost q c x) x (supports q c x w (pos q *ℤ b) shape pair within))
    (listed_in_domain q shape)

pub conjugate_most : (q : ℕ) (c : Listing) (x w : ℤ) → Shape c.items → IsOnCurve q c.items x w
    → (pos q *ℤ conjugate_cost q c w) ≤ℤ (w *ℤ x -ℤ pos q *ℤ cost q c x)
conjugate_most q c x w shape pair =
    let scaled = λ (b : ℤ). pos q *ℤ value q c w b in
    let bound = w *ℤ x -ℤ pos q *ℤ cost q c x in
    let most = greatest_or_one scaled bound (rest_point c.items) (finite_points c.items) (each_value q c x w shape pair) in
    rw (greatest_over-scale q scaled (value q c w) (listed_points c.items) (λ b. refl)) at most

pub equal_on_curve : (q : ℕ) (c : Listing) (x w : ℤ) → IsCurveList c.items → IsOnCurve q c.items x w
    → pos q *ℤ cost q c x +ℤ pos q *ℤ conjugate_cost q c w ≡ x *ℤ w
equal_on_curve q c x w list pair =
    let shape = shape_by_place c.items list in
    let least = fenchel q c x w list pair.in_domain (in_span q x w shape pair) in
    closed (pos q) (cost q c x) (conjugate_cost q c w) x w least (conjugate_most q c x w shape pair)

-- ---- on the curve by equality

-- the flow x fits a piece that y fits with no share between them: the slope is the tension, or both stand at one place
fits_by_share : (q : ℕ) (y w x : ℤ) (k : Piece) → 1 ≤ q → IsBelow k.left k.right → FitsPiece q y w k
    → share q y w x k ≡ pos 0 → FitsPiece q x w k
fits_by_share q y w x k positive below fits none = record { begins_below = begins; ends_above = ends_so }
  where
    same_place : ¬ (pos q *ℤ k.slope ≡ w) → clip q k.left k.right x ≡ clip q k.left k.right y
    same_place apart =
        let still = mul_zero_right (pos q *ℤ k.slope -ℤ w) (way q y x k) none (λ e. apart (omega (arith, ints))) in
        omega (arith, ints)

    begins : IsPast q k.left x → (pos q *ℤ k.slope) ≤ℤ w
    begins past =
        let if_steep = λ (steep : w <ℤ (pos q *ℤ k.slope)).
        fits.begins_below (clip_past_same q k.left k.right x y positive below (same_place (λ e. omega (arith, ints))) past) in
        by_lt_z w (pos q *ℤ k.slope) if_steep (λ flat. flat)

    ends_so : IsBefore q k.right x → w ≤ℤ (pos q *ℤ k.slope)
    ends_so before =
        let if_flat = λ (flat : (pos q *ℤ k.slope) <ℤ w).
        fits.ends_above (clip_before_same q k.left k.right x y positive below (same_place (λ e. omega (arith, ints))) before) in
        by_lt_z (pos q *ℤ k.slope) w if_flat (λ steep. steep)

no_shares : (q x w b f g h sum : ℤ) → sum +ℤ w *ℤ x +ℤ q *ℤ g ≡ w *ℤ (q *ℤ b) +ℤ q *ℤ f
    → (q *ℤ (w *ℤ b -ℤ g)) ≤ℤ (q *ℤ h) → q *ℤ f +ℤ q *ℤ h ≡ x *ℤ w → sum ≤ℤ pos 0
no_shares q x w b f g h sum parts least equal = omega (arith, rings)

pub on_curve_by_equality : (q : ℕ) (c : Listing) (x w : ℤ) → 1 ≤ q → Shape c.items → InDomain q c.items x → InSpan q c.items w
    → pos q *ℤ cost q c x +ℤ pos q *ℤ conjugate_cost q c w ≡ x *ℤ w → IsOnCurve q c.items x w
on_curve_by_equality q c x w positive shape in_x in_w equal =
    let ks = pieces c.items in
    let flow = flow_of q w shape in_w in
    let b = flow.point in
    let y = pos q *ℤ b in
    let pair = flow.on_curve in
    let total = sum_over (share q y w x) ks in
    let parts = shares q c y w x shape pair.in_domain in_x in
    let least = scale_mono q (value q c w b) (conjugate_cost q c w) (greatest_at (value q c w) flow.listed) in
    let none = no_shares (pos q) x w b (cost q c x) (cost q c y) (conjugate_cost q c w) total parts least equal in
    let positives = Each-map (FitsPiece q y w) (λ k. pos 0 ≤ℤ share q y w x k) ks (share_positive q y w x) pair.on_pieces in
    let zeros = sum_zeros (share q y w x) ks positives none in
    let fits_proper = λ (k : Piece). IsBelow k.left k.right × FitsPiece q y w k in
    let proper = Each-zip (λ k. IsBelow k.left k.right) (FitsPiece q y w) fits_proper ks (λ k below fits. (below, fits)) (pieces_below shape) pair.on_pieces in
    let fits = λ (k : Piece) (facts : fits_proper k) (zero : share q y w x k ≡ pos 0). fits_by_share q y w x k positive facts.0 facts.1 zero in
    record { in_domain = in_x; on_pieces = Each-zip fits_proper (λ k. share q y w x k ≡ pos 0) (FitsPiece q x w) ks fits proper zeros }

pub fenchel_equality : FenchelEqualityLaw
fenchel_equality q c x w positive list =
    let shape = shape_by_place c.items list in
    record {
      on_curve = on_curve_by_equality q c x w positive shape;
      in_span = in_span q x w shape;
      equal = equal_on_curve q c x w list;
    }
