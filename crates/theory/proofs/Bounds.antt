-- How large the numbers of a curve are. A sum of two numbers within m and n is within m + n, a product within m * n. The way
-- from one flow to another falls apart into the parts on the pieces: up to the right end of a piece the two flows, moved down to
-- that end, lie as far apart as up to the left end, and further by the part on the piece. So all parts have one sign and add up to
-- at most the way itself, and a cost is within the limit of the base plus the greatest slope times the way, however many pieces
-- there are. All items of a list but its two ends are whole, and the points among them rise, so point k is at least k above the
-- lower limit: a list within n has at most 2 n + 1 such points, which bounds its length. The base of the conjugate is the greatest
-- of finitely many values, each a number of the list times the tension at rest less the cost there.
use Rattle.std.proofs.Common.{◌≡◌, refl, ℕ, zero, suc, ◌+◌, ◌*◌, ◌-◌, ◌^◌, ◌/◌, ◌<◌, ◌≤◌, List, [], ◌∷◌, length, inl, inr, subst, add-one, arith, FitsSigned}
use Rattle.std.specs.Prelude.{ℤ, pos, negsuc, neg_ℤ, ◌+ℤ◌, ◌-ℤ◌, ◌*ℤ◌, ◌≤ℤ◌, ◌<ℤ◌}
use Rattle.std.specs.Prelude.{unsigned_abs, Bool, true, false, if◌then◌else◌}
use Rattle.std.specs.Int.{w64, w128}
use Rattle.std.proofs.lemmas.List.{get_or_past}
use Rattle.std.proofs.lemmas.Bool.{cases_lt}
use Rattle.std.proofs.lemmas.Int.{ints, clamps, by_lt_z, unsigned_abs-mul, fits_signed_from_abs}
use Rattle.std.proofs.Math.Nat.{mul-le-mul_left}
use Rattle.theory.specs.declared.ext.Ext.{Ext}
use Rattle.theory.specs.declared.ext.Ext.TheVariants.{MinusInf, At, PlusInf}
use Rattle.theory.specs.Sums.{sum_below, greatest_over, Each}
use Rattle.theory.specs.Ends.{whole, is_finite, IsFinite, IsBelow, negated}
use Rattle.theory.specs.CurveList.{IsCurveList, Piece, item, first, last, before_last}
use Rattle.theory.specs.Domain.{raised, lowered, clip, rest_point}
use Rattle.theory.specs.Span.{span_low, span_high, rest_tension}
use Rattle.theory.specs.ConjugateCost.{with_finite, finite_points, or_one, listed_points}
use Rattle.theory.specs.Views.{conjugate_of}
use Rattle.theory.specs.Cost.{rise, cost}
use Rattle.theory.specs.Limits.{AreWithin, number_most, base_most, IsWithin, flow_most}
use Rattle.theory.specs.PieceAt.{piece_at}
use Rattle.theory.proofs.Shape.{less_of}
use Rattle.theory.proofs.Rings.{rings}
use Rattle.theory.proofs.Places.{first_at, last_at, sum_over-pieces}

-- ---- sums and products

pub nothing_within : (n : ℕ) → IsWithin n (pos 0)
nothing_within n = (omega (arith, ints), omega (arith, ints))

pub within_more : (m n : ℕ) (a : ℤ) → m ≤ n → IsWithin m a → IsWithin n a
within_more m n a more h = let low = h.0 in let high = h.1 in (omega (arith, ints), omega (arith, ints))

pub within_sum : (m n : ℕ) (a b : ℤ) → IsWithin m a → IsWithin n b → IsWithin (m + n) (a +ℤ b)
within_sum m n a b h k = let p = h.0 in let q = h.1 in let r = k.0 in let s = k.1 in (omega (arith, ints), omega (arith, ints))

pub within_difference : (m n : ℕ) (a b : ℤ) → IsWithin m a → IsWithin n b → IsWithin (m + n) (a -ℤ b)
within_difference m n a b h k = let p = h.0 in let q = h.1 in let r = k.0 in let s = k.1 in (omega (arith, ints), omega (arith, ints))

pub abs_within : (n : ℕ) (a : ℤ) → IsWithin n a → unsigned_abs a ≤ n
abs_within n (pos a) h = let high = h.1 in omega (arith, ints)
abs_within n (negsuc a) h = let low = h.0 in omega (arith, ints)

pub within_abs : (n : ℕ) (a : ℤ) → unsigned_abs a ≤ n → IsWithin n a
within_abs n (pos a) h = (omega (arith, ints), omega (arith, ints))
within_abs n (negsuc a) h = (omega (arith, ints), omega (arith, ints))

mul_bounds : (a b m n : ℕ) → a ≤ m → b ≤ n → a * b ≤ m * n
mul_bounds a b m n h k =
    let p : a * b ≤ a * n = mul-le-mul_left a k in
    let q : n * a ≤ n * m = mul-le-mul_left n h in
    omega arith

pub within_product : (m n : ℕ) (a b : ℤ) → IsWithin m a → IsWithin n b → IsWithin (m * n) (a *ℤ b)
within_product m n a b h k =
    let small : unsigned_abs a * unsigned_abs b ≤ m * n = mul_bounds (unsigned_abs a) (unsigned_abs b) m n (abs_within m a h) (abs_within n b k) in
    within_abs (m * n) (a *ℤ b) (rw unsigned_abs-mul small)

pub within_fits64 : (n : ℕ) (a : ℤ) → IsWithin n a → n < 2 ^ 63 → FitsSigned w64 a
within_fits64 n a h small = fits_signed_from_abs w64 a (let e = abs_within n a h in omega arith)

pub within_fits128 : (n : ℕ) (a : ℤ) → IsWithin n a → n < 2 ^ 127 → FitsSigned w128 a
within_fits128 n a h small = fits_signed_from_abs w128 a (let e = abs_within n a h in omega arith)

pub sum_below-within : (step : ℕ) (f : ℕ → ℤ) → ((k : ℕ) → IsWithin step (f k)) → (n : ℕ) → IsWithin (n * step) (sum_below n f)
sum_below-within step f each zero = nothing_within (0 * step)
sum_below-within step f each (suc n) =
    within_more (n * step + step) (suc n * step) (sum_below (suc n) f) (omega arith)
    (within_sum (n * step) step (sum_below n f) (f n) (sum_below-within step f each n) (each n))

-- ---- a piece

raised_within : (n : ℕ) (e : Ext) (x : ℤ) → IsWithin n (whole e) → IsWithin n x → IsWithin n (raised 1 e x)
raised_within n MinusInf x h k = k
raised_within n (At a) x h k = let p = h.0 in let q = h.1 in let r = k.0 in let s = k.1 in (omega (arith, ints, clamps), omega (arith, ints, clamps))
raised_within n PlusInf x h k = k

lowered_within : (n : ℕ) (e : Ext) (x : ℤ) → IsWithin n (whole e) → IsWithin n x → IsWithin n (lowered 1 e x)
lowered_within n MinusInf x h k = k
lowered_within n (At b) x h k = let p = h.0 in let q = h.1 in let r = k.0 in let s = k.1 in (omega (arith, ints, clamps), omega (arith, ints, clamps))
lowered_within n PlusInf x h k = k

pub clip_within : (n : ℕ) (l r : Ext) (x : ℤ) → IsWithin n (whole l) → IsWithin n (whole r) → IsWithin n x → IsWithin n (clip 1 l r x)
clip_within n l r x left right inside = lowered_within n r (raised 1 l x) right (raised_within n l x left inside)

pub negated-within : (n : ℕ) (e : Ext) → IsWithin n (whole e) → IsWithin n (whole (negated e))
negated-within n MinusInf h = h
negated-within n (At a) h = let low = h.0 in let high = h.1 in (omega (arith, ints), omega (arith, ints))
negated-within n PlusInf h = h

-- ---- a list

past_within : (n : ℕ) (items : List Ext) (k : ℕ) → length items ≤ k → IsWithin n (whole (item items k))
past_within n items k past =
    let e : item items k ≡ MinusInf = get_or_past items k MinusInf past in rw e (nothing_within n)

pub item_within : (n : ℕ) (items : List Ext) → AreWithin n items → (k : ℕ) → IsWithin n (whole (item items k))
item_within n items within k =
    elim (cases_lt k (length items)) [ inl there ↦ within k there | inr past ↦ past_within n items k past ]

finite_rises : (a b : Ext) → IsFinite a → IsFinite b → IsBelow a b → whole a <ℤ whole b
finite_rises MinusInf b fa fb below = cc
finite_rises (At a) MinusInf fa fb below = cc
finite_rises (At a) (At b) fa fb below = less_of a b below
finite_rises (At a) PlusInf fa fb below = cc
finite_rises PlusInf b fa fb below = cc

-- The inner points are whole numbers and rise, so there are no more of them than whole numbers within the limit.
inner_point : (n : ℕ) (items : List Ext) → IsCurveList items → AreWithin n items → (k : ℕ) → 2 * k + 3 < length items → pos k ≤ℤ (whole (item items (2 * k + 2)) +ℤ pos n)
inner_point n items list within zero h = let least = (item_within n items within 2).0 in omega (arith, ints)
inner_point n items list within (suc k) h =
    let so_far = inner_point n items list within k (omega arith) in
    let e : 2 * suc k + 2 ≡ 2 * k + 2 + 2 = omega arith in
    let here = finite_rises (item items (2 * k + 2)) (item items (2 * k + 2 + 2)) (list.inner_finite (2 * k + 2) (omega arith) (omega arith)) (list.inner_finite (2 * k + 2 + 2) (omega arith) (omega arith)) (list.rises (2 * k + 2) (omega arith)) in
    rw e (omega (arith, ints))

pub length-short : (n : ℕ) (items : List Ext) → IsCurveList items → AreWithin n items → length items ≤ 4 * n + 5
length-short n items list within = elim (cases_lt (4 * n + 5) (length items)) [
  | inl long ↦ (
      let inside : 2 * (2 * n + 1) + 3 < length items = omega arith in
      let low = inner_point n items list within (2 * n + 1) inside in
      let high = (item_within n items within (2 * (2 * n + 1) + 2)).1 in
      absurd (omega (arith, ints)))
  | inr short ↦ short
]

-- ---- the way between two flows

-- how far two flows lie apart once both are moved down to an end
abbrev apart : Ext → ℤ → ℤ → ℤ
apart e x y = lowered 1 e y -ℤ lowered 1 e x

-- the part of the way between two flows that falls on a piece
abbrev passed : Ext → Ext → ℤ → ℤ → ℤ
passed l r x y = clip 1 l r y -ℤ clip 1 l r x

apart-rises : (e : Ext) (x y : ℤ) → x ≤ℤ y → (pos 0 ≤ℤ apart e x y) × (apart e x y ≤ℤ (y -ℤ x))
apart-rises MinusInf x y up = (omega (arith, ints), omega (arith, ints))
apart-rises (At a) x y up = (omega (arith, ints, clamps), omega (arith, ints, clamps))
apart-rises PlusInf x y up = (omega (arith, ints), omega (arith, ints))

raised-apart : (l : Ext) (x y : ℤ) → x ≤ℤ y → (pos 0 ≤ℤ (raised 1 l y -ℤ raised 1 l x)) × ((raised 1 l y -ℤ raised 1 l x) ≤ℤ (y -ℤ x))
raised-apart MinusInf x y up = (omega (arith, ints), omega (arith, ints))
raised-apart (At a) x y up = (omega (arith, ints, clamps), omega (arith, ints, clamps))
raised-apart PlusInf x y up = (omega (arith, ints), omega (arith, ints))

passed-rises : (l r : Ext) (x y : ℤ) → x ≤ℤ y → (pos 0 ≤ℤ passed l r x y) × (passed l r x y ≤ℤ apart r x y)
passed-rises l MinusInf x y up = raised-apart l x y up
passed-rises MinusInf (At b) x y up = (omega (arith, ints, clamps), omega (arith, ints, clamps))
passed-rises (At a) (At b) x y up = (omega (arith, ints, clamps), omega (arith, ints, clamps))
passed-rises PlusInf (At b) x y up = (omega (arith, ints, clamps), omega (arith, ints, clamps))
passed-rises l PlusInf x y up = raised-apart l x y up

-- the way below the right end is the way below the left end and the part on the piece
apart-next : (l r : Ext) (x y : ℤ) → IsFinite l → IsBelow l r → apart r x y ≡ apart l x y +ℤ passed l r x y
apart-next MinusInf r x y finite below = cc
apart-next (At a) MinusInf x y finite below = cc
apart-next (At a) (At b) x y finite below = let up = less_of a b below in omega (arith, ints, clamps)
apart-next (At a) PlusInf x y finite below = omega (arith, ints, clamps)
apart-next PlusInf r x y finite below = cc

not_negative : (z : ℤ) → pos 0 ≤ℤ z → z ≡ pos (unsigned_abs z)
not_negative (pos n) h = refl
not_negative (negsuc n) h = absurd (omega (arith, ints))

-- a slope times a part of the way
rise-within : (m v : ℕ) (s d : ℤ) → IsWithin m s → pos 0 ≤ℤ d → d ≤ℤ pos v → IsWithin (m * v) (s *ℤ d)
rise-within m v s d slope low high = within_product m v s d slope (omega (arith, ints), high)

rises-within-next : (m v u w : ℕ) (a b : ℤ) → v ≡ u + w → IsWithin (m * u) a → IsWithin (m * w) b → IsWithin (m * v) (a +ℤ b)
rises-within-next m v u w a b is below here =
    within_more (m * u + m * w) (m * v) (a +ℤ b) (rw is (omega arith)) (within_sum (m * u) (m * w) a b below here)

-- The rises of the first pieces, for two flows in order, are within the greatest slope times the way below the last of their ends.
rises-within : (m : ℕ) (items : List Ext) (x y : ℤ) → IsCurveList items → AreWithin m items → x ≤ℤ y → (k v : ℕ) → 2 * k + 2 < length items
    → apart (item items (2 * k + 2)) x y ≡ pos v → IsWithin (m * v) (sum_below (suc k) (λ j. rise 1 x y (piece_at items j)))
rises-within m items x y list within up zero v inside is =
    let part = passed-rises (item items 0) (item items 2) x y up in
    let here = rise-within m v (whole (item items 1)) (passed (item items 0) (item items 2) x y) (item_within m items within 1) part.0 (omega (arith, ints)) in
    let low = here.0 in
    let high = here.1 in
    (omega (arith, ints), omega (arith, ints))
rises-within m items x y list within up (suc k) v inside is =
    let l = item items (2 * suc k) in
    let r = item items (2 * suc k + 2) in
    let e : 2 * suc k ≡ 2 * k + 2 = omega arith in
    let before = apart-rises l x y up in
    let part = passed-rises l r x y up in
    let next = apart-next l r x y (list.inner_finite (2 * suc k) (omega arith) (omega arith)) (list.rises (2 * suc k) (omega arith)) in
    let so_far : apart l x y ≡ pos (unsigned_abs (apart l x y)) = not_negative (apart l x y) before.0 in
    let here : passed l r x y ≡ pos (unsigned_abs (passed l r x y)) = not_negative (passed l r x y) part.0 in
    rises-within-next m v (unsigned_abs (apart l x y)) (unsigned_abs (passed l r x y))
    (sum_below (suc k) (λ j. rise 1 x y (piece_at items j))) (rise 1 x y (piece_at items (suc k))) (omega (arith, ints))
    (rises-within m items x y list within up k (unsigned_abs (apart l x y)) (omega arith) (subst (λ p. apart (item items p) x y ≡ pos (unsigned_abs (apart l x y))) e so_far))
    (rise-within m (unsigned_abs (passed l r x y)) (whole (item items (2 * suc k + 1))) (passed l r x y) (item_within m items within (2 * suc k + 1)) part.0 (omega (arith, ints)))

rises-way : (m n : ℕ) (items : List Ext) (x y : ℤ) (k : ℕ) → IsCurveList items → AreWithin m items → x ≤ℤ y → IsWithin n x → IsWithin n y → k ≤ length items / 2
    → IsWithin (m * (n + n)) (sum_below k (λ j. rise 1 x y (piece_at items j)))
rises-way m n items x y zero list within up start end fits = nothing_within (m * (n + n))
rises-way m n items x y (suc k) list within up start end fits =
    let e = item items (2 * k + 2) in
    let apart_most = apart-rises e x y up in
    let v = unsigned_abs (apart e x y) in
    let is : apart e x y ≡ pos v = not_negative (apart e x y) apart_most.0 in
    let low = start.0 in
    let high = end.1 in
    let near : v ≤ n + n = omega (arith, ints) in
    within_more (m * v) (m * (n + n)) (sum_below (suc k) (λ j. rise 1 x y (piece_at items j))) (mul-le-mul_left m near)
    (rises-within m items x y list within up k v (omega (arith, list.odd)) is)

product-back : (s a b : ℤ) → s *ℤ (a -ℤ b) ≡ neg_ℤ (s *ℤ (b -ℤ a))
product-back s a b = omega (arith, rings)

-- the other way round each rise has the opposite sign
rises-back : (items : List Ext) (x y : ℤ) (k : ℕ) → sum_below k (λ j. rise 1 x y (piece_at items j)) ≡ neg_ℤ (sum_below k (λ j. rise 1 y x (piece_at items j)))
rises-back items x y zero = refl
rises-back items x y (suc k) =
    let more = rises-back items x y k in
    let here = product-back (whole (item items (2 * k + 1))) (clip 1 (item items (2 * k)) (item items (2 * k + 2)) y) (clip 1 (item items (2 * k)) (item items (2 * k + 2)) x) in
    omega (arith, ints)

pub all_rises-within : (m n : ℕ) (items : List Ext) (x y : ℤ) (k : ℕ) → IsCurveList items → AreWithin m items → IsWithin n x → IsWithin n y → k ≤ length items / 2
    → IsWithin (m * (n + n)) (sum_below k (λ j. rise 1 x y (piece_at items j)))
all_rises-within m n items x y k list within start end fits =
    by_lt_z y x
    (λ down.
    let back = rises-way m n items y x k list within (omega (arith, ints)) end start fits in
    let low = back.0 in
    let high = back.1 in
    rw (rises-back items x y k) (omega (arith, ints), omega (arith, ints)))
    (λ up. rises-way m n items x y k list within up start end fits)

-- ---- the cost up to a piece

-- the cost on the way: the base and the rises of the first pieces
unfoldable pub cost_up_to : List Ext → ℤ → ℤ → ℤ → ℕ → ℤ
cost_up_to items base from to k = base +ℤ sum_below k (λ j. rise 1 from to (piece_at items j))

pub cost_up_to-none : (items : List Ext) (base from to : ℤ) → cost_up_to items base from to 0 ≡ base
unfolding cost_up_to
cost_up_to-none items base from to = omega (arith, ints)

pub cost_up_to-more : (items : List Ext) (base from to : ℤ) (k : ℕ) → cost_up_to items base from to (k + 1) ≡ cost_up_to items base from to k +ℤ rise 1 from to (piece_at items k)
unfolding cost_up_to
cost_up_to-more items base from to k = rw add-one (omega (arith, ints))

pub cost_up_to-all : (items : List Ext) (base to : ℤ) → IsCurveList items → cost_up_to items base (rest_point items) to (length items / 2) ≡ cost 1 (record { items = items; base = base }) to
unfolding cost_up_to
cost_up_to-all items base to list =
    let e = sum_over-pieces (rise 1 (rest_point items) to) items list in
    let one : pos 1 *ℤ rest_point items ≡ rest_point items = omega (arith, ints) in
    rw (one, e) (omega (arith, ints))

pub cost_up_to-within : (b m n : ℕ) (items : List Ext) (base from to : ℤ) (k : ℕ) → IsCurveList items → AreWithin m items → IsWithin b base → IsWithin n from → IsWithin n to
    → k ≤ length items / 2 → IsWithin (b + m * (n + n)) (cost_up_to items base from to k)
unfolding cost_up_to
cost_up_to-within b m n items base from to k list within low start end fits =
    within_sum b (m * (n + n)) base (sum_below k (λ j. rise 1 from to (piece_at items j))) low
    (all_rises-within m n items from to k list within start end fits)

pub rest_point-within : (n : ℕ) (items : List Ext) → IsCurveList items → AreWithin n items → IsWithin n (rest_point items)
rest_point-within n items list within =
    let low : IsWithin n (whole (first items)) = rw (← first_at items) (item_within n items within 0) in
    let high : IsWithin n (whole (last items)) = rw (← last_at items (length items - 1) (omega (arith, list.odd))) (item_within n items within (length items - 1)) in
    clip_within n (first items) (last items) (pos 0) low high (nothing_within n)

pub cost-within : (b m n : ℕ) (items : List Ext) (base x : ℤ) → IsCurveList items → m ≤ n → AreWithin m items → IsWithin b base → IsWithin n x
    → IsWithin (b + m * (n + n)) (cost 1 (record { items = items; base = base }) x)
cost-within b m n items base x list more within low inside =
    rw (← cost_up_to-all items base x list)
    (cost_up_to-within b m n items base (rest_point items) x (length items / 2) list within low (within_more m n (rest_point items) more (rest_point-within m items list within)) inside (omega arith))

-- a cost on the way stays far below the largest 128-bit number
pub priced_within : (items : List Ext) (base to : ℤ) (k : ℕ) → IsCurveList items → AreWithin number_most items → IsWithin (2 * base_most) base → IsWithin (2 * flow_most) to
    → k ≤ length items / 2 → IsWithin (10 ^ 28) (cost_up_to items base (rest_point items) to k)
priced_within items base to k list within low inside fits =
    let from = within_more number_most (2 * flow_most) (rest_point items) (omega arith) (rest_point-within number_most items list within) in
    within_more (2 * base_most + number_most * (2 * flow_most + 2 * flow_most)) (10 ^ 28) (cost_up_to items base (rest_point items) to k) (omega arith)
    (cost_up_to-within (2 * base_most) number_most (2 * flow_most) items base (rest_point items) to k list within low from inside fits)

-- ---- the base of the conjugate

greatest_over-within : (n : ℕ) (f : ℤ → ℤ) (xs : List ℤ) → Each (λ x. IsWithin n (f x)) xs → IsWithin n (greatest_over f xs)
greatest_over-within n f [] each = nothing_within n
greatest_over-within n f (x ∷ []) each = each.0
greatest_over-within n f (x ∷ y ∷ ys) each =
    let more = greatest_over-within n f (y ∷ ys) each.1 in
    let a = each.0.0 in
    let b = each.0.1 in
    let c = more.0 in
    let d = more.1 in
    (omega (arith, ints, clamps), omega (arith, ints, clamps))

Each-within : (n : ℕ) (P : ℤ → Type 0) (xs : List ℤ) → ((x : ℤ) → IsWithin n x → P x) → Each (IsWithin n) xs → Each P xs
Each-within n P [] f each = tt
Each-within n P (x ∷ xs) f each = (f x each.0, Each-within n P xs f each.1)

with_finite-within : (n : ℕ) (e : Ext) (points : List ℤ) → IsWithin n (whole e) → Each (IsWithin n) points → Each (IsWithin n) (with_finite e points)
with_finite-within n MinusInf points here each = each
with_finite-within n (At a) points here each = (here, each)
with_finite-within n PlusInf points here each = each

AreWithin-later : (n : ℕ) (p s : Ext) (items : List Ext) → AreWithin n (p ∷ s ∷ items) → AreWithin n items
AreWithin-later n p s items within k h = within (suc (suc k)) (omega arith)

finite_points-within : (n : ℕ) (items : List Ext) → AreWithin n items → Each (IsWithin n) (finite_points items)
finite_points-within n [] within = tt
finite_points-within n (p ∷ []) within = with_finite-within n p [] (within 0 (omega arith)) tt
finite_points-within n (p ∷ s ∷ rest) within =
    with_finite-within n p (finite_points rest) (within 0 (omega arith)) (finite_points-within n rest (AreWithin-later n p s rest within))

or_one-within : (n : ℕ) (points : List ℤ) (x : ℤ) → IsWithin n x → Each (IsWithin n) points → Each (IsWithin n) (or_one points x)
or_one-within n [] x here each = (here, tt)
or_one-within n (a ∷ points) x here each = each

infinite_or_within : (n : ℕ) (b : Bool) (e f : Ext) → IsWithin n (whole e) → IsWithin n (whole f) → IsWithin n (whole (if b then e else f))
infinite_or_within n true e f h k = h
infinite_or_within n false e f h k = k

before_last-within : (n : ℕ) (items : List Ext) → AreWithin n items → IsWithin n (whole (before_last items))
before_last-within n [] within = nothing_within n
before_last-within n (p ∷ []) within = nothing_within n
before_last-within n (s ∷ p ∷ []) within = within 0 (omega arith)
before_last-within n (p ∷ s ∷ r ∷ rest) within = before_last-within n (s ∷ r ∷ rest) (λ k h. within (suc k) (omega arith))

pub span_low-within : (n : ℕ) (items : List Ext) → AreWithin n items → IsWithin n (whole (span_low items))
span_low-within n items within =
    infinite_or_within n (is_finite (first items)) MinusInf (item items 1) (nothing_within n) (item_within n items within 1)

pub span_high-within : (n : ℕ) (items : List Ext) → AreWithin n items → IsWithin n (whole (span_high items))
span_high-within n items within =
    infinite_or_within n (is_finite (last items)) PlusInf (before_last items) (nothing_within n) (before_last-within n items within)

pub rest_tension-within : (n : ℕ) (items : List Ext) → AreWithin n items → IsWithin n (rest_tension items)
rest_tension-within n items within =
    clip_within n (span_low items) (span_high items) (pos 0) (span_low-within n items within) (span_high-within n items within) (nothing_within n)

conjugate_value_within : (items : List Ext) (base b : ℤ) → IsCurveList items → AreWithin number_most items → IsWithin base_most base → IsWithin number_most b
    → IsWithin (2 * base_most) (rest_tension items *ℤ b -ℤ cost 1 (record { items = items; base = base }) (pos 1 *ℤ b))
conjugate_value_within items base b list within low inside =
    let one : pos 1 *ℤ b ≡ b = omega (arith, ints) in
    let priced = cost-within base_most number_most number_most items base b list (omega arith) within low inside in
    let product = within_product number_most number_most (rest_tension items) b (rest_tension-within number_most items within) inside in
    let all = within_difference (number_most * number_most) (base_most + number_most * (number_most + number_most)) (rest_tension items *ℤ b) (cost 1 (record { items = items; base = base }) b) product priced in
    rw one
    (within_more (number_most * number_most + (base_most + number_most * (number_most + number_most))) (2 * base_most)
    (rest_tension items *ℤ b -ℤ cost 1 (record { items = items; base = base }) b) (omega arith) all)

-- It is a flow times a tension less a cost, each near 0 but for the base.
pub conjugate_base-within : (items : List Ext) (base : ℤ) → IsCurveList items → AreWithin number_most items → IsWithin base_most base
    → IsWithin (2 * base_most) (conjugate_of (record { items = items; base = base })).base
conjugate_base-within items base list within low =
    let w = rest_tension items in
    let value : (b : ℤ) → IsWithin number_most b → IsWithin (2 * base_most) (w *ℤ b -ℤ cost 1 (record { items = items; base = base }) (pos 1 *ℤ b)) = (λ b inside. conjugate_value_within items base b list within low inside) in
    greatest_over-within (2 * base_most) (λ b. w *ℤ b -ℤ cost 1 (record { items = items; base = base }) (pos 1 *ℤ b)) (listed_points items)
    (Each-within number_most _ (listed_points items) value
    (or_one-within number_most (finite_points items) (rest_point items) (rest_point-within number_most items list within) (finite_points-within number_most items within)))
