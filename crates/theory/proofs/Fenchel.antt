-- Fenchel's inequality.
-- (1) From a pair (y, w) of the curve the cost rises at least by the tension: w (x - y) <= q (cost x - cost y) for each
--     flow x of the domain. The difference is a sum over the pieces of (q slope - w) times the way from y to x within
--     the piece, and no term is negative: where the way is upward, y is before the piece's end, so the slope is at
--     least w; where it is downward, y is past the piece's beginning, so the slope is at most w. No order of the slopes
--     is needed.
-- (2) Each tension w of the span has a listed point b with (q b, w) on the curve: the point before the first slope
--     that is not below w, or the last point.
-- At that point the conjugate cost is at least w b less the cost, and (1) does the rest.
use Rattle.std.proofs.Common.{◌≡◌, ℕ, true, false, ℤ, pos, ◌+ℤ◌, ◌≤ℤ◌, ◌<ℤ◌, List, ◌∷◌, refl, arith}
use Rattle.std.specs.Prelude.{◌-ℤ◌, ◌*ℤ◌, neg_ℤ}
use Rattle.std.proofs.lemmas.Int.{ints, clamps, by_lt_z}
use Rattle.theory.specs.declared.ext.Ext.{Ext}
use Rattle.theory.specs.declared.ext.Ext.TheVariants.{MinusInf, At, PlusInf}
use Rattle.theory.specs.Ends.{IsBelow, IsAtLeast, IsAtMost}
use Rattle.theory.specs.CurveList.{Listing, Piece, pieces, last}
use Rattle.theory.specs.Domain.{InDomain, raised, lowered, clip, rest_point}
use Rattle.theory.specs.Sums.{sum_over}
use Rattle.theory.specs.Cost.{rise, cost}
use Rattle.theory.specs.OnCurve.{IsOnCurve, FitsPiece}
use Rattle.theory.specs.ConjugateCost.{conjugate_cost}
use Rattle.theory.specs.CurveLaws.{FenchelLaw, PairsRiseLaw}
use Rattle.theory.proofs.Rings.{rings, scale_mono, mul_agreeing, mul_strict}
use Rattle.theory.proofs.Sums.{Each-map, sum_over-add, sum_over-scale, sum_positives, greatest_at}
use Rattle.theory.proofs.Shape.{Rest, ends, goes_on, Shape, single, long, shape_by_place}
use Rattle.theory.proofs.Pairs.{flow_of}
use Rattle.theory.proofs.Clip.{clip_before, clip_past}

-- ---- the way from y to x within the pieces adds up to the way from y to x

abbrev pub way : ℕ → ℤ → ℤ → Piece → ℤ
way q y x k = clip q k.left k.right x -ℤ clip q k.left k.right y

-- at a point b within the list: what is lowered to b and what is raised to it
turned_at : (q : ℕ) (l : Ext) (b x : ℤ) → IsBelow l (At b)
    → lowered q (At b) (raised q l x) +ℤ raised q (At b) x ≡ pos q *ℤ b +ℤ raised q l x
turned_at q MinusInf b x below = omega (arith, ints, clamps)
turned_at q (At a) b x below = let m = scale_mono q a b (omega (arith, ints)) in omega (arith, ints, clamps)
turned_at q PlusInf b x below = let h : false ≡ true = below in cc

ended_at : (q : ℕ) (l m : Ext) (x : ℤ) → IsBelow l m → IsAtMost q m x → lowered q m (raised q l x) ≡ raised q l x
ended_at q l MinusInf x below most = refl
ended_at q MinusInf (At b) x below most = omega (arith, ints, clamps)
ended_at q (At a) (At b) x below most = let m = scale_mono q a b (omega (arith, ints)) in omega (arith, ints, clamps)
ended_at q PlusInf (At b) x below most = let h : false ≡ true = below in cc
ended_at q l PlusInf x below most = refl

raised_in : (q : ℕ) (e : Ext) (x : ℤ) → IsAtLeast q e x → raised q e x ≡ x
raised_in q MinusInf x least = refl
raised_in q (At a) x least = omega (arith, ints, clamps)
raised_in q PlusInf x least = refl

ways_from : (q : ℕ) (y x : ℤ) (l : Ext) {s : ℤ} {m : Ext} {rest : List Ext} → IsBelow l m → Rest s m rest
    → IsAtMost q (last (m ∷ rest)) y → IsAtMost q (last (m ∷ rest)) x
    → sum_over (way q y x) (pieces (l ∷ At s ∷ m ∷ rest)) ≡ raised q l x -ℤ raised q l y
ways_from q y x l {m = m} below ends most_y most_x = rw (ended_at q l m x below most_x, ended_at q l m y below most_y) (omega (arith, ints))
ways_from q y x l below (goes_on {b = b} rises next more) most_y most_x =
    let later = ways_from q y x (At b) next more most_y most_x in
    let turn_x = turned_at q l b x below in
    let turn_y = turned_at q l b y below in
    omega (arith, ints)

ways : (q : ℕ) (y x : ℤ) {items : List Ext} → Shape items → InDomain q items y → InDomain q items x
    → sum_over (way q y x) (pieces items) ≡ x -ℤ y
ways q y x single in_y in_x = omega (arith, ints)
ways q y x (long {l = l} below more) in_y in_x =
    let sum = ways_from q y x l below more in_y.most in_x.most in
    let e = raised_in q l y in_y.least in
    let f = raised_in q l x in_x.least in
    omega (arith, ints)

-- ---- (1) a pair of the curve supports the cost

-- q slope - w times the way within the piece
abbrev pub share : ℕ → ℤ → ℤ → ℤ → Piece → ℤ
share q y w x k = (pos q *ℤ k.slope -ℤ w) *ℤ way q y x k

pub share_positive : (q : ℕ) (y w x : ℤ) (k : Piece) → FitsPiece q y w k → pos 0 ≤ℤ share q y w x k
share_positive q y w x k fits =
    let place_y = clip q k.left k.right y in
    let place_x = clip q k.left k.right x in
    mul_agreeing
    (pos q *ℤ k.slope -ℤ w)
    (way q y x k)
    (λ upward. let steep = fits.ends_above (clip_before q k.left k.right y x (omega (arith, ints))) in omega (arith, ints))
    (λ downward. let flat = fits.begins_below (clip_past q k.left k.right x y (omega (arith, ints))) in omega (arith, ints))

split_rise : (s a b c : ℤ) → s *ℤ (a -ℤ b) ≡ s *ℤ (c -ℤ b) +ℤ s *ℤ (a -ℤ c)
split_rise s a b c = omega (arith, rings)

pub cost_between : (q : ℕ) (c : Listing) (y x : ℤ) → cost q c x ≡ cost q c y +ℤ sum_over (rise q y x) (pieces c.items)
cost_between q c y x =
    let rest = pos q *ℤ rest_point c.items in
    let split : (k : Piece) → rise q rest x k ≡ rise q rest y k +ℤ rise q y x k =
    λ k. split_rise k.slope (clip q k.left k.right x) (clip q k.left k.right rest) (clip q k.left k.right y) in
    let sum = sum_over-add (rise q rest x) (rise q rest y) (rise q y x) (pieces c.items) split in
    omega (arith, ints)

split_share : (q w s d : ℤ) → (q *ℤ s -ℤ w) *ℤ d ≡ q *ℤ (s *ℤ d) +ℤ neg_ℤ w *ℤ d
split_share q w s d = omega (arith, rings)

put_together : (q w f r d y x : ℤ) → f ≡ q *ℤ r +ℤ neg_ℤ w *ℤ d → d ≡ x -ℤ y → f +ℤ w *ℤ x ≡ q *ℤ r +ℤ w *ℤ y
put_together q w f r d y x e g = let h = rw g at e in omega (arith, rings)

-- the shares make what the cost rises by beyond the tension
pub shares : (q : ℕ) (c : Listing) (y w x : ℤ) → Shape c.items → InDomain q c.items y → InDomain q c.items x
    → sum_over (share q y w x) (pieces c.items) +ℤ w *ℤ x +ℤ pos q *ℤ cost q c y ≡ w *ℤ y +ℤ pos q *ℤ cost q c x
shares q c y w x shape in_y in_x =
    let ks = pieces c.items in
    let rises = λ (k : Piece). pos q *ℤ rise q y x k in
    let moves = λ (k : Piece). neg_ℤ w *ℤ way q y x k in
    let sum = sum_over-add (share q y w x) rises moves ks (λ k. split_share (pos q) w k.slope (way q y x k)) in
    let all_rises = sum_over-scale (pos q) rises (rise q y x) ks (λ k. refl) in
    let all_moves = sum_over-scale (neg_ℤ w) moves (way q y x) ks (λ k. refl) in
    let total = sum_over (share q y w x) ks in
    let whole = put_together (pos q) w total (sum_over (rise q y x) ks) (sum_over (way q y x) ks) y x (omega (arith, ints)) (ways q y x shape in_y in_x) in
    rw (cost_between q c y x) (omega (arith, rings))

-- a pair of the curve bears the cost up
pub supports : (q : ℕ) (c : Listing) (y w x : ℤ) → Shape c.items → IsOnCurve q c.items y w → InDomain q c.items x
    → (w *ℤ x +ℤ pos q *ℤ cost q c y) ≤ℤ (w *ℤ y +ℤ pos q *ℤ cost q c x)
supports q c y w x shape pair in_x =
    let e = shares q c y w x shape pair.in_domain in_x in
    let each = Each-map (FitsPiece q y w) (λ k. pos 0 ≤ℤ share q y w x k) (pieces c.items) (share_positive q y w x) pair.on_pieces in
    let positive = sum_positives (share q y w x) (pieces c.items) each in
    omega (arith, ints)

-- ---- the inequality

-- with a pair (q b, w) of the curve, f the cost at x, g the cost at q b and h the conjugate cost
concluded : (q x w b f g h : ℤ) → (w *ℤ x +ℤ q *ℤ g) ≤ℤ (w *ℤ (q *ℤ b) +ℤ q *ℤ f) → (q *ℤ (w *ℤ b -ℤ g)) ≤ℤ (q *ℤ h)
    → (x *ℤ w) ≤ℤ (q *ℤ f +ℤ q *ℤ h)
concluded q x w b f g h rises least = omega (arith, rings)

-- what the flow b gives to the conjugate cost
abbrev pub value : ℕ → Listing → ℤ → ℤ → ℤ
value q c w b = w *ℤ b -ℤ cost q c (pos q *ℤ b)

pub fenchel : FenchelLaw
fenchel q c x w list in_x in_w =
    let shape = shape_by_place c.items list in
    let flow = flow_of q w shape in_w in
    let b = flow.point in
    let y = pos q *ℤ b in
    let least = scale_mono q (value q c w b) (conjugate_cost q c w) (greatest_at (value q c w) flow.listed) in
    concluded (pos q) x w b (cost q c x) (cost q c y) (conjugate_cost q c w) (supports q c y w x shape flow.on_curve in_x) least

-- ---- pairs rise together

ordered : (v w x y : ℤ) → x <ℤ y → (v *ℤ (y -ℤ x)) ≤ℤ (w *ℤ (y -ℤ x)) → v ≤ℤ w
ordered v w x y before h =
    by_lt_z w v (λ falls. let m = mul_strict (v -ℤ w) (y -ℤ x) (omega (arith, ints)) (omega (arith, ints)) in absurd (omega (arith, rings))) (λ l. l)

opposed : (q v w x y f g : ℤ) → (v *ℤ y +ℤ q *ℤ f) ≤ℤ (v *ℤ x +ℤ q *ℤ g) → (w *ℤ x +ℤ q *ℤ g) ≤ℤ (w *ℤ y +ℤ q *ℤ f)
    → (v *ℤ (y -ℤ x)) ≤ℤ (w *ℤ (y -ℤ x))
opposed q v w x y f g up_from down_from = omega (arith, rings)

pub pairs_rise : PairsRiseLaw
pairs_rise q items x v y w list left right before =
    let shape = shape_by_place items list in
    let c : Listing = record { items = items; base = pos 0 } in
    let rise_from_x = supports q c x v y shape left right.in_domain in
    let rise_from_y = supports q c y w x shape right left.in_domain in
    ordered v w x y before (opposed (pos q) v w x y (cost q c x) (cost q c y) rise_from_x rise_from_y)
