-- Curve lists by recursion. `IsCurveList` says what stands at each place; a proof by induction wants the list built up
-- from its end. `Shape` says so: one finite point, or a point, a slope, a point and a `Rest`, which is a slope and a
-- point at a time. The two say the same: `shape_by_place` goes two places on at a time, `place_of_shape` reads a place
-- off the list that the data fact shows.
use Rattle.std.proofs.Common.{◌≡◌, ℕ, zero, suc, ◌+◌, ◌%◌, ◌<◌, ◌≤◌, ℤ, ◌<ℤ◌, true, false, List, [], ◌∷◌, length, refl, sym, arith}
use Rattle.std.proofs.lemmas.Int.{ints}
use Rattle.theory.specs.declared.ext.Ext.{Ext}
use Rattle.theory.specs.declared.ext.Ext.TheVariants.{MinusInf, At, PlusInf}
use Rattle.theory.specs.Ends.{IsFinite, IsBelow}
use Rattle.theory.specs.Sums.{Each}
use Rattle.theory.specs.CurveList.{IsCurveList, pieces, item}

-- what may follow the slope s and the point m
pub data Rest : ℤ → Ext → List Ext → Type 0 where
  ends : {s : ℤ} {m : Ext} → Rest s m []
  goes_on : {s t b : ℤ} {r : Ext} {rest : List Ext} → s <ℤ t → IsBelow (At b) r → Rest t r rest → Rest s (At b) (At t ∷ r ∷ rest)

pub data Shape : List Ext → Type 0 where
  single : {p : ℤ} → Shape (At p ∷ [])
  long : {l m : Ext} {s : ℤ} {rest : List Ext} → IsBelow l m → Rest s m rest → Shape (l ∷ At s ∷ m ∷ rest)

-- ---- from places to recursion

-- the facts of a list that begins at a slope, or at a point that is not the first
record Places (items : List Ext) : Type 0 where
  rises : (k : ℕ) → suc (suc k) < length items → IsBelow (item items k) (item items (suc (suc k)))
  finite : (k : ℕ) → suc k < length items → IsFinite (item items k)

later_places : (p s : Ext) (items : List Ext) → Places (p ∷ s ∷ items) → Places items
later_places p s items places =
    record {
      rises = λ k h. places.rises (suc (suc k)) (omega arith);
      finite = λ k h. places.finite (suc (suc k)) (omega arith);
    }

pub less_of : (a b : ℤ) → IsBelow (At a) (At b) → a <ℤ b
less_of a b h = omega (arith, ints)

pub less_in : (a b : ℤ) → a <ℤ b → IsBelow (At a) (At b)
less_in a b h = sym (omega (arith, ints))

rest_by_place : (s : ℤ) (m : Ext) (rest : List Ext) → length rest % 2 ≡ 0 → Places (At s ∷ m ∷ rest) → Rest s m rest
rest_by_place s m [] even places = ends
rest_by_place s m (t ∷ []) even places = absurd (omega arith)
rest_by_place s MinusInf (t ∷ r ∷ rest) even places = let h : false ≡ true = places.finite 1 (omega arith) in cc
rest_by_place s PlusInf (t ∷ r ∷ rest) even places = let h : false ≡ true = places.finite 1 (omega arith) in cc
rest_by_place s (At b) (MinusInf ∷ r ∷ rest) even places = let h : false ≡ true = places.finite 2 (omega arith) in cc
rest_by_place s (At b) (PlusInf ∷ r ∷ rest) even places = let h : false ≡ true = places.finite 2 (omega arith) in cc
rest_by_place s (At b) (At t ∷ r ∷ rest) even places =
    goes_on
    (less_of s t (places.rises 0 (omega arith)))
    (places.rises 1 (omega arith))
    (rest_by_place t r rest (omega arith) (later_places (At s) (At b) (At t ∷ r ∷ rest) places))

-- the facts of a curve list from its slope on
inner_places : (l s m : Ext) (rest : List Ext) → IsCurveList (l ∷ s ∷ m ∷ rest) → Places (s ∷ m ∷ rest)
inner_places l s m rest list =
    record {
      rises = λ k h. (
          let within : suc k + 2 < length (l ∷ s ∷ m ∷ rest) = omega arith in
          let e : suc k + 2 ≡ suc (suc (suc k)) = omega arith in
          rw e at (list.rises (suc k) within));
      finite = λ k h. list.inner_finite (suc k) (omega arith) (omega arith);
    }

pub shape_by_place : (items : List Ext) → IsCurveList items → Shape items
shape_by_place [] list = absurd (omega (arith, list.odd))
shape_by_place (MinusInf ∷ []) list = let h : false ≡ true = list.single_finite refl in cc
shape_by_place (At p ∷ []) list = single
shape_by_place (PlusInf ∷ []) list = let h : false ≡ true = list.single_finite refl in cc
shape_by_place (l ∷ s ∷ []) list = absurd (omega (arith, list.odd))
shape_by_place (l ∷ MinusInf ∷ m ∷ rest) list = let h : false ≡ true = list.inner_finite 1 (omega arith) (omega arith) in cc
shape_by_place (l ∷ PlusInf ∷ m ∷ rest) list = let h : false ≡ true = list.inner_finite 1 (omega arith) (omega arith) in cc
shape_by_place (l ∷ At s ∷ m ∷ rest) list =
    long
    (list.rises 0 (omega arith))
    (rest_by_place s m rest (omega (arith, list.odd)) (inner_places l (At s) m rest list))

-- ---- from recursion to places

pub rest_even : {s : ℤ} {m : Ext} {rest : List Ext} → Rest s m rest → length rest % 2 ≡ 0
rest_even ends = refl
rest_even (goes_on rises below more) = omega (arith, rest_even more)

rest_rises : {s : ℤ} {m : Ext} {rest : List Ext} → Rest s m rest → (k : ℕ) → k < length rest
    → IsBelow (item (At s ∷ m ∷ rest) k) (item rest k)
rest_rises ends k h = absurd (omega arith)
rest_rises (goes_on rises below more) zero h = less_in _ _ rises
rest_rises (goes_on rises below more) (suc zero) h = below
rest_rises (goes_on rises below more) (suc (suc k)) h = rest_rises more k (omega arith)

rest_finite : {s : ℤ} {m : Ext} {rest : List Ext} → Rest s m rest → (k : ℕ) → k ≤ length rest
    → IsFinite (item (At s ∷ m ∷ rest) k)
rest_finite ends zero h = refl
rest_finite ends (suc k) h = absurd (omega arith)
rest_finite (goes_on rises below more) zero h = refl
rest_finite (goes_on rises below more) (suc zero) h = refl
rest_finite (goes_on rises below more) (suc (suc k)) h = rest_finite more k (omega arith)

long_rises : (l m : Ext) (s : ℤ) (rest : List Ext) → IsBelow l m → Rest s m rest → (k : ℕ) → k < suc (length rest)
    → IsBelow (item (l ∷ At s ∷ m ∷ rest) k) (item (m ∷ rest) k)
long_rises l m s rest below more zero h = below
long_rises l m s rest below more (suc k) h = rest_rises more k (omega arith)

long_finite : (l m : Ext) (s : ℤ) (rest : List Ext) → Rest s m rest → (k : ℕ) → 0 < k → k + 1 < length (l ∷ At s ∷ m ∷ rest)
    → IsFinite (item (l ∷ At s ∷ m ∷ rest) k)
long_finite l m s rest more zero positive h = absurd (omega arith)
long_finite l m s rest more (suc k) positive h = rest_finite more k (omega arith)

pub place_of_shape : {items : List Ext} → Shape items → IsCurveList items
place_of_shape single =
    record {
      odd = refl;
      rises = λ k h. absurd (omega arith);
      inner_finite = λ k positive h. absurd (omega arith);
      single_finite = λ h. refl;
    }
place_of_shape (long {l = l} {m = m} {s = s} {rest = rest} below more) =
    record {
      odd = omega (arith, rest_even more);
      rises = λ k h. (let e : k + 2 ≡ suc (suc k) = omega arith in rw e (long_rises l m s rest below more k (omega arith)));
      inner_finite = long_finite l m s rest more;
      single_finite = λ h. absurd (omega arith);
    }

-- ---- the pieces

-- each piece begins below its end
pieces_below_rest : (l : Ext) {s : ℤ} {m : Ext} {rest : List Ext} → IsBelow l m → Rest s m rest
    → Each (λ k. IsBelow k.left k.right) (pieces (l ∷ At s ∷ m ∷ rest))
pieces_below_rest l below ends = (below, tt)
pieces_below_rest l below (goes_on {b = b} rises next more) = (below, pieces_below_rest (At b) next more)

pub pieces_below : {items : List Ext} → Shape items → Each (λ k. IsBelow k.left k.right) (pieces items)
pieces_below single = tt
pieces_below (long {l = l} below more) = pieces_below_rest l below more
