-- Integration by parts. For a pair (x, w) of the curve over q the area under the curve up to x and the area on its left
-- up to w make the rectangle x w: no more, no less, since the curve has no width. The first area is the sum over the
-- pieces of slope times the way within the piece; the second is that sum for the conjugate list at w.
-- The proof walks along the list. At a corner (b, u), a point and the slope before it, both passed by the pair, what is
-- left is x w less the corner's rectangle. The next slope is t, the next point r:
--     the pair stays at b:        the way on from b is none, and the tension is between u and t
--     it is between b and r:      the tension is t
--     it is at or past r:         the corner (r, t) is passed too
-- Beyond the place of the pair each way is none, in both lists.
use Rattle.std.proofs.Common.{◌≡◌, ℕ, ◌≤◌, true, false, ℤ, pos, ◌+ℤ◌, ◌-ℤ◌, ◌*ℤ◌, ◌≤ℤ◌, List, ◌∷◌, refl, arith}
use Rattle.std.specs.Int.{int_max}
use Rattle.std.proofs.lemmas.Int.{ints, clamps, by_lt_z}
use Rattle.theory.specs.declared.ext.Ext.{Ext}
use Rattle.theory.specs.declared.ext.Ext.TheVariants.{MinusInf, At, PlusInf}
use Rattle.theory.specs.Ends.{whole, IsBelow, IsAtLeast, IsAtMost, IsBefore}
use Rattle.theory.specs.CurveList.{Piece, pieces, last}
use Rattle.theory.specs.Domain.{clip}
use Rattle.theory.specs.Sums.{sum_over, Each}
use Rattle.theory.specs.Cost.{rise}
use Rattle.theory.specs.OnCurve.{IsOnCurve, FitsPiece}
use Rattle.theory.specs.Views.{turned_back, conjugate_items}
use Rattle.theory.proofs.Rings.{rings, scale_strict}
use Rattle.theory.proofs.Sums.{sum_over-add, sum_over-scale}
use Rattle.theory.proofs.Shape.{Rest, ends, goes_on, Shape, single, long, less_in}
use Rattle.theory.proofs.Clip.{clip_same, clip_low, clip_high}
use Rattle.theory.proofs.Pairs.{most_after}
use Rattle.theory.proofs.ConjugateList.{rest_turned}

-- q slope times the way from the piece's beginning, or from 0 where it has none
abbrev pub part : ℕ → ℤ → Piece → ℤ
part q x k = (pos q *ℤ k.slope) *ℤ (clip q k.left k.right x -ℤ pos q *ℤ whole k.left)

split_part : (q s a b c : ℤ) → (q *ℤ s) *ℤ (a -ℤ c) ≡ q *ℤ (s *ℤ (a -ℤ b)) +ℤ (q *ℤ s) *ℤ (b -ℤ c)
split_part q s a b c = spread q s (a -ℤ b) (b -ℤ c) (a -ℤ c) (omega (arith, ints))
  where
    spread : (q s d e f : ℤ) → f ≡ d +ℤ e → (q *ℤ s) *ℤ f ≡ q *ℤ (s *ℤ d) +ℤ (q *ℤ s) *ℤ e
    spread q s d e f same = rw same (omega (arith, rings))

-- the rise between two flows is the difference of their parts
pub rises_by_parts : (q : ℕ) (y x : ℤ) (ks : List Piece) → sum_over (part q x) ks ≡ pos q *ℤ sum_over (rise q y x) ks +ℤ sum_over (part q y) ks
rises_by_parts q y x ks =
    let split = λ (k : Piece). split_part (pos q) k.slope (clip q k.left k.right x) (clip q k.left k.right y) (pos q *ℤ whole k.left) in
    let sum = sum_over-add (part q x) (λ k. pos q *ℤ rise q y x k) (part q y) ks split in
    let scaled = sum_over-scale (pos q) (λ k. pos q *ℤ rise q y x k) (rise q y x) ks (λ k. refl) in
    rw (← scaled) sum

-- ---- the order of ends

before_most : (q : ℕ) (r : Ext) (x : ℤ) → IsBefore q r x → IsAtMost q r x
before_most q MinusInf x before = tt
before_most q (At b) x before = omega (arith, ints)
before_most q PlusInf x before = tt

-- before an end, or at or past it
by_place : {P : Type 0} (q : ℕ) (r : Ext) (x : ℤ) → (IsBefore q r x → P) → ((d : ℤ) → r ≡ At d → (pos q *ℤ d) ≤ℤ x → P) → P
by_place q MinusInf x before past = before tt
by_place q (At d) x before past = by_lt_z x (pos q *ℤ d) before (past d refl)
by_place q PlusInf x before past = before tt

before_next : (q : ℕ) (b : ℤ) (r : Ext) (x : ℤ) → 1 ≤ q → IsBelow (At b) r → x ≤ℤ (pos q *ℤ b) → IsBefore q r x
before_next q b MinusInf x positive below most = tt
before_next q b (At c) x positive below most = let m = scale_strict q b c positive (omega (arith, ints)) in omega (arith, ints)
before_next q b PlusInf x positive below most = tt

-- ---- one step along the list

nothing : (t c b p : ℤ) → c ≡ b → p ≡ pos 0 → t *ℤ (c -ℤ b) +ℤ p ≡ pos 0
nothing t c b p e f = rw (e, f) (omega (arith, rings))

-- no part from a point on that is not passed
none : (q : ℕ) (x : ℤ) {s : ℤ} {m : Ext} {rest : List Ext} → Rest s m rest → IsAtMost q m x
    → sum_over (part q x) (pieces (m ∷ rest)) ≡ pos 0
none q x ends most = refl
none q x (goes_on {t = t} {b = b} {r = r} {rest = rest} rises below more) most =
    nothing
    (pos q *ℤ t)
    (clip q (At b) r x)
    (pos q *ℤ b)
    (sum_over (part q x) (pieces (r ∷ rest)))
    (clip_low q b r x below most)
    (none q x more (most_after q b r x below most))

-- in the conjugate list of one that begins at minus infinity
none_turned : (q : ℕ) (w : ℤ) {s : ℤ} {m : Ext} {rest : List Ext} → IsBelow MinusInf m → Rest s m rest → w ≤ℤ (pos q *ℤ s)
    → sum_over (part q w) (pieces (At s ∷ turned_back (m ∷ rest))) ≡ pos 0
none_turned q w {m = MinusInf} below more flat = let h : false ≡ true = below in cc
none_turned q w {m = At b} below more flat = none q w (rest_turned (b -ℤ pos 1) (less_in (b -ℤ pos 1) b (omega (arith, ints))) more) flat
none_turned q w {m = PlusInf} below more flat = none q w (rest_turned (pos 0) refl more) flat

-- at the point b, in the piece of slope t, past the next point d
stays : (b u t x w c e p z : ℤ) → c ≡ b → e ≡ w → p ≡ pos 0 → z ≡ pos 0 → x ≡ b
    → t *ℤ (c -ℤ b) +ℤ p +ℤ (b *ℤ (e -ℤ u) +ℤ z) +ℤ b *ℤ u ≡ x *ℤ w
stays b u t x w c e p z f g h i j = rw (f, g, h, i, j) (omega (arith, rings))

within : (b u t x w c e p z : ℤ) → c ≡ x → e ≡ t → p ≡ pos 0 → z ≡ pos 0 → w ≡ t
    → t *ℤ (c -ℤ b) +ℤ p +ℤ (b *ℤ (e -ℤ u) +ℤ z) +ℤ b *ℤ u ≡ x *ℤ w
within b u t x w c e p z f g h i j = rw (f, g, h, i, j) (omega (arith, rings))

passes : (b u t x w c e p z d : ℤ) → c ≡ d → e ≡ t → p +ℤ z +ℤ d *ℤ t ≡ x *ℤ w
    → t *ℤ (c -ℤ b) +ℤ p +ℤ (b *ℤ (e -ℤ u) +ℤ z) +ℤ b *ℤ u ≡ x *ℤ w
passes b u t x w c e p z d f g h = rw (f, g) (omega (arith, rings))

-- what the corner (d, t) leaves, where it is passed
abbrev LeftOver : ℕ → ℤ → ℤ → ℤ → Ext → List Ext → Type 0
LeftOver q x w t r rest = (d : ℤ) → r ≡ At d → (pos q *ℤ d) ≤ℤ x → (pos q *ℤ t) ≤ℤ w
    → sum_over (part q x) (pieces (r ∷ rest)) +ℤ sum_over (part q w) (pieces (At t ∷ turned_back (r ∷ rest))) +ℤ (pos q *ℤ d) *ℤ (pos q *ℤ t) ≡ x *ℤ w

module _ (q : ℕ) (x w : ℤ) (positive : 1 ≤ q) where
  step : (u : Ext) (b t : ℤ) (r : Ext) (rest : List Ext) → IsBelow u (At t) → IsBelow (At b) r → Rest t r rest
      → IsAtLeast q u w → (pos q *ℤ b) ≤ℤ x → FitsPiece q x w (record { left = At b; slope = t; right = r }) → LeftOver q x w t r rest
      → part q x (record { left = At b; slope = t; right = r }) +ℤ sum_over (part q x) (pieces (r ∷ rest))
      +ℤ (part q w (record { left = u; slope = b; right = At t }) +ℤ sum_over (part q w) (pieces (At t ∷ turned_back (r ∷ rest))))
      +ℤ (pos q *ℤ b) *ℤ (pos q *ℤ whole u)
      ≡ x *ℤ w
  step u b t r rest rises below more least begun fits over =
      let point = pos q *ℤ b in
      let slope = pos q *ℤ t in
      let before_slope = pos q *ℤ whole u in
      let flow = clip q (At b) r x in
      let tension = clip q u (At t) w in
      let later = sum_over (part q x) (pieces (r ∷ rest)) in
      let later_turned = sum_over (part q w) (pieces (At t ∷ turned_back (r ∷ rest))) in
      by_lt_z point x
      (λ past.
      let steep = fits.begins_below past in
      by_place q r x
      (λ before.
      let flat = fits.ends_above before in
      within
      point
      before_slope
      slope
      x
      w
      flow
      tension
      later
      later_turned
      (clip_same q (At b) r x (record { least = begun; most = before_most q r x before }))
      (clip_high q u t w rises steep)
      (none q x more (before_most q r x before))
      (none q w (rest_turned b below more) flat)
      (omega (arith, ints)))
      (λ d same end.
      passes
      point
      before_slope
      slope
      x
      w
      flow
      tension
      later
      later_turned
      (pos q *ℤ d)
      (rw same (clip_high q (At b) d x (rw same at below) end))
      (clip_high q u t w rises steep)
      (over d same end steep)))
      (λ stay.
      let before = before_next q b r x positive below stay in
      let flat = fits.ends_above before in
      stays
      point
      before_slope
      slope
      x
      w
      flow
      tension
      later
      later_turned
      (clip_low q b r x below stay)
      (clip_same q u (At t) w (record { least = least; most = flat }))
      (none q x more (most_after q b r x below stay))
      (none q w (rest_turned b below more) flat)
      (omega (arith, ints)))

  last_corner : (b s : ℤ) → (pos q *ℤ s) ≤ℤ w → (pos q *ℤ b) ≤ℤ x → x ≤ℤ (pos q *ℤ b)
      → pos 0 +ℤ ((pos q *ℤ b) *ℤ (int_max (pos q *ℤ s) w -ℤ pos q *ℤ s) +ℤ pos 0) +ℤ (pos q *ℤ b) *ℤ (pos q *ℤ s) ≡ x *ℤ w
  last_corner b s steep begun most = plain (pos q *ℤ b) (pos q *ℤ s) x w (int_max (pos q *ℤ s) w) (omega (arith, ints, clamps)) (omega (arith, ints))
    where
      plain : (b s x w c : ℤ) → c ≡ w → x ≡ b → pos 0 +ℤ (b *ℤ (c -ℤ s) +ℤ pos 0) +ℤ b *ℤ s ≡ x *ℤ w
      plain b s x w c e f = rw (e, f) (omega (arith, rings))

  corner : {s : ℤ} {m : Ext} {rest : List Ext} → Rest s m rest → IsAtMost q (last (m ∷ rest)) x
      → Each (FitsPiece q x w) (pieces (m ∷ rest)) → LeftOver q x w s m rest
  corner (ends {m = MinusInf}) most fits d same begun steep = cc
  corner (ends {s = s} {m = At b}) most fits d same begun steep = let e : b ≡ d = cc in rw (← e) (last_corner b s steep (rw (← e) at begun) most)
  corner (ends {m = PlusInf}) most fits d same begun steep = cc
  corner (goes_on {s = s} {t = t} {b = b} {r = r} {rest = rest} rises below more) most fits d same begun steep =
      let e : b ≡ d = cc in
      rw (← e) (step (At s) b t r rest (less_in s t rises) below more steep (rw (← e) at begun) fits.0 (corner more most fits.1))

  no_beginning : (a z : ℤ) → z +ℤ a *ℤ (pos q *ℤ pos 0) ≡ x *ℤ w → z ≡ x *ℤ w
  no_beginning a z e = let f : a *ℤ (pos q *ℤ pos 0) ≡ pos 0 = omega (arith, rings) in omega (arith, ints)

  pub parts : {items : List Ext} → Shape items → IsOnCurve q items x w
      → sum_over (part q x) (pieces items) +ℤ sum_over (part q w) (pieces (conjugate_items items)) ≡ x *ℤ w
  parts (single {p = p}) pair = plain (pos q *ℤ p) (omega (arith, ints, pair.in_domain))
    where
      plain : (b : ℤ) → x ≡ b → pos 0 +ℤ (b *ℤ (w -ℤ pos q *ℤ pos 0) +ℤ pos 0) ≡ x *ℤ w
      plain b e = rw e (omega (arith, rings))
  parts (long {l = MinusInf} {m = m} {s = s} {rest = rest} below more) pair =
      let fits = pair.on_pieces.0 in
      let steep = fits.begins_below tt in
      by_place q m x
      (λ before.
      let flat = fits.ends_above before in
      from_within
      (pos q *ℤ s)
      (clip q MinusInf m x)
      (sum_over (part q x) (pieces (m ∷ rest)))
      (sum_over (part q w) (pieces (At s ∷ turned_back (m ∷ rest))))
      (clip_same q MinusInf m x (record { least = tt; most = before_most q m x before }))
      (none q x more (before_most q m x before))
      (none_turned q w below more flat)
      (omega (arith, ints)))
      (λ d same end.
      from_past
      (pos q *ℤ s)
      (clip q MinusInf m x)
      (sum_over (part q x) (pieces (m ∷ rest)))
      (sum_over (part q w) (pieces (At s ∷ turned_back (m ∷ rest))))
      (pos q *ℤ d)
      (rw same (clip_high q MinusInf d x refl end))
      (corner more pair.in_domain.most pair.on_pieces.1 d same end steep))
    where
      from_within : (s c p z : ℤ) → c ≡ x → p ≡ pos 0 → z ≡ pos 0 → w ≡ s → s *ℤ (c -ℤ pos q *ℤ pos 0) +ℤ p +ℤ z ≡ x *ℤ w
      from_within s c p z e f g h = rw (e, f, g, h) (omega (arith, rings))

      from_past : (s c p z d : ℤ) → c ≡ d → p +ℤ z +ℤ d *ℤ s ≡ x *ℤ w → s *ℤ (c -ℤ pos q *ℤ pos 0) +ℤ p +ℤ z ≡ x *ℤ w
      from_past s c p z d e f = rw e (omega (arith, rings))
  parts (long {l = At a} {m = m} {s = s} {rest = rest} below more) pair =
      no_beginning
      (pos q *ℤ a)
      _
      (step MinusInf a s m rest refl below more tt pair.in_domain.least pair.on_pieces.0 (corner more pair.in_domain.most pair.on_pieces.1))
  parts (long {l = PlusInf} below more) pair = let h : false ≡ true = below in cc
