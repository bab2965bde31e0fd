-- The levels of a curve. Rounding keeps the order of the points, though no longer strictly. Built up from its end, the
-- list without its flat pieces begins at the first point as it was rounded, and is what may follow any lesser slope: a
-- point that is the same as the next is left out together with the slope between them, and the slope before it is
-- less than both. A point that stays lies strictly below the next.
use Rattle.std.proofs.Common.{◌≡◌, ℕ, ℤ, pos, ◌<ℤ◌, Bool, true, false, not, ◌&&◌, List, [], ◌∷◌, ◌⊎◌, inl, inr, refl, sym, ap, ap₂, ◌∙◌, arith}
use Rattle.std.proofs.lemmas.Int.{ints}
use Rattle.theory.specs.declared.ext.Ext.{Ext}
use Rattle.theory.specs.declared.ext.Ext.TheVariants.{MinusInf, At, PlusInf}
use Rattle.theory.specs.Ends.{IsBelow, is_below, negated}
use Rattle.theory.specs.CurveList.{first}
use Rattle.theory.specs.Views.{rounded_down, rounded_up, rounded_points, is_same_end, without_flat, level_items}
use Rattle.theory.specs.ViewLaws.{LevelLaw, LevelZeroLaw}
use Rattle.theory.proofs.Ends.{negated-negated}
use Rattle.theory.proofs.Rounding.{down-mono, up-above_down, up-above_own_down, down-zero}
use Rattle.theory.proofs.Shape.{Rest, ends, goes_on, Shape, single, long, shape_by_place, place_of_shape}

-- ---- the test of two ends

same_end : (d e : Ext) → is_same_end d e ≡ true → d ≡ e
same_end MinusInf MinusInf h = refl
same_end MinusInf (At b) h = let f : false ≡ true = h in cc
same_end MinusInf PlusInf h = let f : false ≡ true = h in cc
same_end (At a) MinusInf h = let f : false ≡ true = h in cc
same_end (At a) (At b) h = ap At (neither (is_below (At a) (At b)) (is_below (At b) (At a)) refl refl h)
  where
    neither : (x y : Bool) → is_below (At a) (At b) ≡ x → is_below (At b) (At a) ≡ y → (not x && not y) ≡ true → a ≡ b
    neither true y e f g = let h : false ≡ true = g in cc
    neither false true e f g = let h : false ≡ true = g in cc
    neither false false e f g = omega (arith, ints)
same_end (At a) PlusInf h = let f : false ≡ true = h in cc
same_end PlusInf MinusInf h = let f : false ≡ true = h in cc
same_end PlusInf (At b) h = let f : false ≡ true = h in cc
same_end PlusInf PlusInf h = refl

-- ends that aren't the same and aren't the wrong way round
apart : (d e : Ext) → is_below e d ≡ false → is_same_end d e ≡ false → IsBelow d e
apart d e h other = one_is (is_below d e) (is_below e d) h other
  where
    one_is : (x y : Bool) → y ≡ false → (not x && not y) ≡ false → x ≡ true
    one_is true y f g = refl
    one_is false true f g = sym f
    one_is false false f g = sym g

below_apart : (d e : Ext) → IsBelow d e → is_same_end d e ≡ false
below_apart d e h = rw h

-- ---- what stays

flat_goes : (p s : Ext) (rest kept : List Ext) → without_flat rest ≡ kept → is_same_end p (first kept) ≡ true
    → without_flat (p ∷ s ∷ rest) ≡ kept
flat_goes p s rest kept e same = rw (e, same)

steep_stays : (p s : Ext) (rest kept : List Ext) → without_flat rest ≡ kept → is_same_end p (first kept) ≡ false
    → without_flat (p ∷ s ∷ rest) ≡ p ∷ s ∷ kept
steep_stays p s rest kept e other = rw (e, other)

-- ---- level 0

flat_of_rest : {s : ℤ} {m : Ext} {rest : List Ext} → Rest s m rest → without_flat (m ∷ rest) ≡ m ∷ rest
flat_of_rest ends = refl
flat_of_rest (goes_on {t = t} {b = b} {r = r} {rest = rest} rises below more) =
    steep_stays (At b) (At t) (r ∷ rest) (r ∷ rest) (flat_of_rest more) (below_apart (At b) r below)

up-zero : (e : Ext) → rounded_up 0 e ≡ e
up-zero e = rw (down-zero (negated e), negated-negated e)

points_zero : {s : ℤ} {m : Ext} {rest : List Ext} → Rest s m rest → rounded_points 0 (m ∷ rest) ≡ m ∷ rest
points_zero {m = m} ends = rw (up-zero m)
points_zero (goes_on {t = t} {b = b} rises below more) = ap₂ (λ p items. p ∷ At t ∷ items) (down-zero (At b)) (points_zero more)

zero_of_shape : {items : List Ext} → Shape items → level_items 0 items ≡ items
zero_of_shape (single {p = p}) =
    let itself : is_below (At p) (At p) ≡ false = sym (omega (arith, ints)) in
    ap₂ (λ down up. without_flat (down ∷ At (pos 0) ∷ up ∷ [])) (down-zero (At p)) (up-zero (At p))
    ∙ flat_goes (At p) (At (pos 0)) (At p ∷ []) (At p ∷ []) refl (rw itself)
zero_of_shape (long {l = l} {m = m} {s = s} {rest = rest} below more) =
    ap₂ (λ p items. without_flat (p ∷ At s ∷ items)) (down-zero l) (points_zero more)
    ∙ steep_stays l (At s) (m ∷ rest) (m ∷ rest) (flat_of_rest more) (below_apart l m below)

pub level-zero : LevelZeroLaw
level-zero items list = zero_of_shape (shape_by_place items list)

-- ---- each level

-- the list from the point m on, rounded and without its flat pieces
record Kept (k : ℕ) (s : ℤ) (m : Ext) (rest : List Ext) : Type 0 where
  head : Ext
  tail : List Ext
  rounding : (head ≡ rounded_down k m) ⊎ (head ≡ rounded_up k m)
  same : without_flat (rounded_points k (m ∷ rest)) ≡ head ∷ tail
  follows : Rest s head tail

in_order : (k : ℕ) (l m head : Ext) → IsBelow l m → (head ≡ rounded_down k m) ⊎ (head ≡ rounded_up k m)
    → is_below head (rounded_down k l) ≡ false
in_order k l m head below (inl e) = rw e (down-mono k l m below)
in_order k l m head below (inr e) = rw e (up-above_down k l m below)

lesser_slope : {t : ℤ} {m : Ext} {rest : List Ext} (s : ℤ) → s <ℤ t → Rest t m rest → Rest s m rest
lesser_slope s less ends = ends
lesser_slope s less (goes_on rises below more) = goes_on (omega (arith, ints)) below more

kept_before : (k : ℕ) (s t b : ℤ) (r : Ext) (rest : List Ext) → s <ℤ t → IsBelow (At b) r → Kept k t r rest
    → Kept k s (At b) (At t ∷ r ∷ rest)
kept_before k s t b r rest rises below kept = by (is_same_end (rounded_down k (At b)) kept.head) refl
  where
    by : (x : Bool) → is_same_end (rounded_down k (At b)) kept.head ≡ x → Kept k s (At b) (At t ∷ r ∷ rest)
    by true e =
        record {
          head = kept.head;
          tail = kept.tail;
          rounding = inl (sym (same_end (rounded_down k (At b)) kept.head e));
          same = flat_goes (rounded_down k (At b)) (At t) (rounded_points k (r ∷ rest)) (kept.head ∷ kept.tail) kept.same e;
          follows = lesser_slope s rises kept.follows;
        }
    by false e =
        record {
          head = rounded_down k (At b);
          tail = At t ∷ kept.head ∷ kept.tail;
          rounding = inl refl;
          same = steep_stays (rounded_down k (At b)) (At t) (rounded_points k (r ∷ rest)) (kept.head ∷ kept.tail) kept.same e;
          follows = goes_on rises (apart (rounded_down k (At b)) kept.head (in_order k (At b) r kept.head below kept.rounding) e) kept.follows;
        }

kept_of : (k : ℕ) {s : ℤ} {m : Ext} {rest : List Ext} → Rest s m rest → Kept k s m rest
kept_of k {m = m} ends = record { head = rounded_up k m; tail = []; rounding = inr refl; same = refl; follows = ends }
kept_of k (goes_on {s = s} {t = t} {b = b} {r = r} {rest = rest} rises below more) =
    kept_before k s t b r rest rises below (kept_of k more)

-- a list that begins at a finite point
shape_behind : {s b : ℤ} {rest : List Ext} → Rest s (At b) rest → Shape (At b ∷ rest)
shape_behind ends = single
shape_behind (goes_on rises below more) = long below more

-- the list of the first slope and what was kept behind it
level_of_kept : (k : ℕ) (l m : Ext) (s : ℤ) (rest : List Ext) → IsBelow l m → Kept k s m rest
    → Shape (level_items k (l ∷ At s ∷ m ∷ rest))
level_of_kept k l m s rest below kept = by (is_same_end (rounded_down k l) kept.head) refl
  where
    order : is_below kept.head (rounded_down k l) ≡ false
    order = in_order k l m kept.head below kept.rounding

    from : (head : Ext) (tail : List Ext) (l m : Ext) → IsBelow l m → (head ≡ rounded_down k m) ⊎ (head ≡ rounded_up k m)
        → rounded_down k l ≡ head → Rest s head tail → Shape (head ∷ tail)
    from head tail MinusInf MinusInf below rounding e follows = let f : false ≡ true = below in cc
    from head tail MinusInf (At b) below (inl d) e follows = let f = e ∙ d in cc
    from head tail MinusInf (At b) below (inr d) e follows = let f = e ∙ d in cc
    from head tail MinusInf PlusInf below (inl d) e follows = let f = e ∙ d in cc
    from head tail MinusInf PlusInf below (inr d) e follows = let f = e ∙ d in cc
    from head tail (At a) m below rounding e follows = rw (← e) (shape_behind (rw (← e) at follows))
    from head tail PlusInf m below rounding e follows = let f : false ≡ true = below in cc

    by : (x : Bool) → is_same_end (rounded_down k l) kept.head ≡ x → Shape (level_items k (l ∷ At s ∷ m ∷ rest))
    by true e =
        rw (flat_goes (rounded_down k l) (At s) (rounded_points k (m ∷ rest)) (kept.head ∷ kept.tail) kept.same e)
        (from kept.head kept.tail l m below kept.rounding (same_end (rounded_down k l) kept.head e) kept.follows)
    by false e =
        rw (steep_stays (rounded_down k l) (At s) (rounded_points k (m ∷ rest)) (kept.head ∷ kept.tail) kept.same e)
        (long (apart (rounded_down k l) kept.head order e) kept.follows)

level_of_shape : (k : ℕ) {items : List Ext} → Shape items → Shape (level_items k items)
level_of_shape k (single {p = p}) = by (is_same_end (rounded_down k (At p)) (rounded_up k (At p))) refl
  where
    by : (x : Bool) → is_same_end (rounded_down k (At p)) (rounded_up k (At p)) ≡ x → Shape (level_items k (At p ∷ []))
    by true e = rw (flat_goes (rounded_down k (At p)) (At (pos 0)) (rounded_up k (At p) ∷ []) (rounded_up k (At p) ∷ []) refl e) single
    by false e =
        rw (steep_stays (rounded_down k (At p)) (At (pos 0)) (rounded_up k (At p) ∷ []) (rounded_up k (At p) ∷ []) refl e)
        (long (apart (rounded_down k (At p)) (rounded_up k (At p)) (up-above_own_down k p) e) ends)
level_of_shape k (long {l = l} {m = m} {s = s} {rest = rest} below more) = level_of_kept k l m s rest below (kept_of k more)

pub level-is_list : LevelLaw
level-is_list k items list = place_of_shape (level_of_shape k (shape_by_place items list))
