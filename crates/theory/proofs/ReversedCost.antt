-- Cost and conjugate cost of the reversed curve.
-- The pieces of the reversed list are those of the list from the back, each turned: its ends and its slope negated.
-- A number's opposite, moved into a turned piece, is the opposite of the number moved into the piece. So a turned piece
-- adds to the cost at -x what the piece adds at x, and the rest points are opposite too: the costs are the same sum.
-- The listed points are the opposites of those of the list, from the back; each takes part in the greatest with the
-- same value, and the greatest doesn't mind the order.
use Rattle.std.proofs.Common.{◌≡◌, ℕ, ◌<◌, ℤ, pos, ◌+ℤ◌, ◌-ℤ◌, ◌*ℤ◌, neg_ℤ, false, List, [], ◌∷◌, ◌++◌, map, reverse, length, refl, sym, ap, ◌∙◌, arith}
use Rattle.std.specs.Int.{int_max}
use Rattle.std.proofs.lemmas.Int.{ints, clamps}
use Rattle.std.proofs.lemmas.List.{reverse-append, append-nil, length-reverse, length-map}
use Rattle.theory.specs.declared.ext.Ext.{Ext}
use Rattle.theory.specs.declared.ext.Ext.TheVariants.{MinusInf, At, PlusInf}
use Rattle.theory.specs.Sums.{sum_over, greatest_over}
use Rattle.theory.specs.Ends.{IsBelow, is_below, negated}
use Rattle.theory.specs.CurveList.{Listing, Piece, pieces, first, last}
use Rattle.theory.specs.Domain.{clip, rest_point}
use Rattle.theory.specs.Cost.{rise, cost}
use Rattle.theory.specs.ConjugateCost.{with_finite, finite_points, or_one, listed_points, conjugate_cost}
use Rattle.theory.specs.Views.{reversed_items, reversed_of}
use Rattle.theory.specs.ViewLaws.{ReversedCostLaw, ReversedConjugateCostLaw}
use Rattle.theory.proofs.Rings.{rings, scale_mono}
use Rattle.theory.proofs.Sums.{sum_over-each, greatest_over-same}
use Rattle.theory.proofs.Ends.{below_asym}
use Rattle.theory.proofs.Shape.{Shape, single, long, shape_by_place, pieces_below}
use Rattle.theory.proofs.ReversedPairs.{Alternating, point, longer, alternating, alternating-reversed, reversed-two_more, last-reversed_of, first-reversed_of, turned}
use Rattle.theory.proofs.ZeroCost.{below_last}

-- ---- the pieces

pieces-added : (f : Piece → ℤ) (s : ℤ) (r : Ext) {items : List Ext} → Alternating items
    → sum_over f (pieces (items ++ At s ∷ r ∷ [])) ≡ sum_over f (pieces items) +ℤ f (record { left = last items; slope = s; right = r })
pieces-added f s r (point {p = p}) = let x = f (record { left = p; slope = s; right = r }) in omega (arith, ints)
pieces-added f s r (longer {p = p} {r = m} {s = t} {rest = rest} more) =
    let e = pieces-added f s r more in
    let x = f (record { left = p; slope = t; right = m }) in
    omega (arith, ints)

sum_over-reversed : (f : Piece → ℤ) {items : List Ext} → Alternating items
    → sum_over f (pieces (reversed_items items)) ≡ sum_over (λ k. f (turned k)) (pieces items)
sum_over-reversed f point = refl
sum_over-reversed f (longer {p = p} {r = r} {s = s} {rest = rest} more) =
    let e = pieces-added f (neg_ℤ s) (negated p) (alternating-reversed more) in
    let same = last-reversed_of more in
    let others = sum_over-reversed f more in
    rw (reversed-two_more p s (r ∷ rest), e, same, others)
    (swapped (sum_over (λ k. f (turned k)) (pieces (r ∷ rest))) (f (turned (record { left = p; slope = s; right = r }))))
  where
    swapped : (a b : ℤ) → a +ℤ b ≡ b +ℤ a
    swapped a b = omega (arith, ints)

-- ---- the cost

below_asym_itself : (p : ℤ) → is_below (At p) (At p) ≡ false
below_asym_itself p = sym (omega (arith, ints))

-- a number's opposite, moved into the turned range
pub clip-turned : (q : ℕ) (l r : Ext) (x : ℤ) → is_below r l ≡ false
    → clip q (negated r) (negated l) (neg_ℤ x) ≡ neg_ℤ (clip q l r x)
clip-turned q MinusInf MinusInf x h = refl
clip-turned q MinusInf (At b) x h = omega (arith, rings, clamps)
clip-turned q MinusInf PlusInf x h = refl
clip-turned q (At a) MinusInf x h = omega (arith, rings, clamps)
clip-turned q (At a) (At b) x h = let e = scale_mono q a b (omega (arith, ints)) in omega (arith, rings, clamps)
clip-turned q (At a) PlusInf x h = omega (arith, rings, clamps)
clip-turned q PlusInf MinusInf x h = refl
clip-turned q PlusInf (At b) x h = omega (arith, rings, clamps)
clip-turned q PlusInf PlusInf x h = refl

turned_product : (s a b c d : ℤ) → c ≡ neg_ℤ a → d ≡ neg_ℤ b → neg_ℤ s *ℤ (c -ℤ d) ≡ s *ℤ (a -ℤ b)
turned_product s a b c d e f = rw (e, f) (omega (arith, rings))

rise-turned : (q : ℕ) (y x : ℤ) (k : Piece) → IsBelow k.left k.right → rise q (neg_ℤ y) (neg_ℤ x) (turned k) ≡ rise q y x k
rise-turned q y x k below =
    let order = below_asym k.left k.right below in
    turned_product k.slope _ _ _ _ (clip-turned q k.left k.right x order) (clip-turned q k.left k.right y order)

-- the domain's ends are in order
pub ordered_ends : {items : List Ext} → Shape items → is_below (last items) (first items) ≡ false
ordered_ends (single {p = p}) = below_asym_itself p
ordered_ends (long {l = l} {m = m} {rest = rest} below more) = below_asym l (last (m ∷ rest)) (below_last l below more)

rest_point-reversed : {items : List Ext} → Shape items → rest_point (reversed_items items) ≡ neg_ℤ (rest_point items)
rest_point-reversed {items = items} shape =
    rw (first-reversed_of (alternating shape), last-reversed_of (alternating shape))
    (clip-turned 1 (first items) (last items) (pos 0) (ordered_ends shape))

neg_product : (q : ℕ) (x y : ℤ) → x ≡ neg_ℤ y → pos q *ℤ x ≡ neg_ℤ (pos q *ℤ y)
neg_product q x y e = rw e (omega (arith, rings))

cost_of_shape : (q : ℕ) (c : Listing) (x : ℤ) → Shape c.items → cost q (reversed_of c) (neg_ℤ x) ≡ cost q c x
cost_of_shape q c x shape =
    let rest = pos q *ℤ rest_point c.items in
    let at_rest = neg_product q (rest_point (reversed_items c.items)) (rest_point c.items) (rest_point-reversed shape) in
    let turn = sum_over-reversed (rise q (neg_ℤ rest) (neg_ℤ x)) (alternating shape) in
    let same =
    sum_over-each
    (λ k. IsBelow k.left k.right)
    (λ k. rise q (neg_ℤ rest) (neg_ℤ x) (turned k))
    (rise q rest x)
    (pieces c.items)
    (pieces_below shape)
    (rise-turned q rest x) in
    rw at_rest (ap (λ z. pos q *ℤ c.base +ℤ z) (turn ∙ same))

pub cost-reversed : ReversedCostLaw
cost-reversed q c x list = cost_of_shape q c x (shape_by_place c.items list)

-- ---- the conjugate cost

abbrev opposites : List ℤ → List ℤ
opposites xs = reverse (map neg_ℤ xs)

opposites-more : (x : ℤ) (xs : List ℤ) → opposites (x ∷ xs) ≡ opposites xs ++ neg_ℤ x ∷ []
opposites-more x xs = reverse-append (neg_ℤ x ∷ []) (map neg_ℤ xs)

finite_points-added : (s r : Ext) {items : List Ext} → Alternating items
    → finite_points (items ++ s ∷ r ∷ []) ≡ finite_points items ++ with_finite r []
finite_points-added s MinusInf (point {p = MinusInf}) = refl
finite_points-added s (At b) (point {p = MinusInf}) = refl
finite_points-added s PlusInf (point {p = MinusInf}) = refl
finite_points-added s MinusInf (point {p = At a}) = refl
finite_points-added s (At b) (point {p = At a}) = refl
finite_points-added s PlusInf (point {p = At a}) = refl
finite_points-added s MinusInf (point {p = PlusInf}) = refl
finite_points-added s (At b) (point {p = PlusInf}) = refl
finite_points-added s PlusInf (point {p = PlusInf}) = refl
finite_points-added s r (longer {p = MinusInf} more) = finite_points-added s r more
finite_points-added s r (longer {p = At a} more) = ap (λ xs. a ∷ xs) (finite_points-added s r more)
finite_points-added s r (longer {p = PlusInf} more) = finite_points-added s r more

finite_points-reversed : {items : List Ext} → Alternating items
    → finite_points (reversed_items items) ≡ opposites (finite_points items)
finite_points-reversed (point {p = MinusInf}) = refl
finite_points-reversed (point {p = At a}) = refl
finite_points-reversed (point {p = PlusInf}) = refl
finite_points-reversed (longer {p = p} {r = r} {s = s} {rest = rest} more) =
    ap finite_points (reversed-two_more p s (r ∷ rest))
    ∙ finite_points-added (At (neg_ℤ s)) (negated p) (alternating-reversed more)
    ∙ ap (λ points. points ++ with_finite (negated p) []) (finite_points-reversed more)
    ∙ with_point p (finite_points (r ∷ rest))
  where
    with_point : (e : Ext) (points : List ℤ) → opposites points ++ with_finite (negated e) [] ≡ opposites (with_finite e points)
    with_point MinusInf points = append-nil (opposites points)
    with_point (At a) points = sym (opposites-more a points)
    with_point PlusInf points = append-nil (opposites points)

-- the greatest over a list with one more value behind
greatest-added : (f : ℤ → ℤ) (a x : ℤ) (xs : List ℤ) → greatest_over f (a ∷ xs ++ x ∷ []) ≡ int_max (greatest_over f (a ∷ xs)) (f x)
greatest-added f a x [] = refl
greatest-added f a x (b ∷ xs) = ap (int_max (f a)) (greatest-added f b x xs) ∙ grouped (f a) (greatest_over f (b ∷ xs)) (f x)
  where
    grouped : (k l m : ℤ) → int_max k (int_max l m) ≡ int_max (int_max k l) m
    grouped k l m = omega (arith, ints, clamps)

-- of a list that isn't empty
greatest-pushed : (f : ℤ → ℤ) (x : ℤ) (xs : List ℤ) → 0 < length xs
    → greatest_over f (xs ++ x ∷ []) ≡ int_max (greatest_over f xs) (f x)
greatest-pushed f x [] h = absurd (omega arith)
greatest-pushed f x (a ∷ xs) h = greatest-added f a x xs

greatest-opposites : (f : ℤ → ℤ) (a : ℤ) (xs : List ℤ) → greatest_over f (opposites (a ∷ xs)) ≡ greatest_over (λ x. f (neg_ℤ x)) (a ∷ xs)
greatest-opposites f a [] = refl
greatest-opposites f a (b ∷ xs) =
    let size : length (opposites (b ∷ xs)) ≡ length (b ∷ xs) = length-reverse (map neg_ℤ (b ∷ xs)) ∙ length-map (b ∷ xs) neg_ℤ in
    let some : 0 < length (opposites (b ∷ xs)) = omega arith in
    rw (opposites-more a (b ∷ xs), greatest-pushed f (neg_ℤ a) (opposites (b ∷ xs)) some, greatest-opposites f b xs)
    (swapped (greatest_over (λ x. f (neg_ℤ x)) (b ∷ xs)) (f (neg_ℤ a)))
  where
    swapped : (k l : ℤ) → int_max k l ≡ int_max l k
    swapped k l = omega (arith, ints, clamps)

greatest-listed : (f g : ℤ → ℤ) (points : List ℤ) (r : ℤ) → ((x : ℤ) → f (neg_ℤ x) ≡ g x)
    → greatest_over f (or_one (opposites points) (neg_ℤ r)) ≡ greatest_over g (or_one points r)
greatest-listed f g [] r same = same r
greatest-listed f g (a ∷ points) r same =
    ap (greatest_over f) (kept (opposites (a ∷ points)) (neg_ℤ r) (omega (arith, length-reverse (map neg_ℤ (a ∷ points)))))
    ∙ greatest-opposites f a points
    ∙ greatest_over-same (λ x. f (neg_ℤ x)) g (a ∷ points) same
  where
    kept : (xs : List ℤ) (x : ℤ) → 0 < length xs → or_one xs x ≡ xs
    kept [] x h = absurd (omega arith)
    kept (y ∷ xs) x h = refl

listed_points-reversed : {items : List Ext} → Shape items
    → listed_points (reversed_items items) ≡ or_one (opposites (finite_points items)) (neg_ℤ (rest_point items))
listed_points-reversed shape = rw (finite_points-reversed (alternating shape), rest_point-reversed shape)

conjugate_cost_of_shape : (q : ℕ) (c : Listing) (w : ℤ) → Shape c.items
    → conjugate_cost q (reversed_of c) (neg_ℤ w) ≡ conjugate_cost q c w
conjugate_cost_of_shape q c w shape =
    let f = λ (b : ℤ). neg_ℤ w *ℤ b -ℤ cost q (reversed_of c) (pos q *ℤ b) in
    let g = λ (b : ℤ). w *ℤ b -ℤ cost q c (pos q *ℤ b) in
    ap (greatest_over f) (listed_points-reversed shape)
    ∙ greatest-listed f g (finite_points c.items) (rest_point c.items)
    (λ b. same_value w b _ _ (ap (cost q (reversed_of c)) (neg_product q (neg_ℤ b) b refl) ∙ cost_of_shape q c (pos q *ℤ b) shape))
  where
    same_value : (w b x y : ℤ) → x ≡ y → neg_ℤ w *ℤ neg_ℤ b -ℤ x ≡ w *ℤ b -ℤ y
    same_value w b x y e = rw e (omega (arith, rings))

pub conjugate_cost-reversed : ReversedConjugateCostLaw
conjugate_cost-reversed q c w list = conjugate_cost_of_shape q c w (shape_by_place c.items list)
