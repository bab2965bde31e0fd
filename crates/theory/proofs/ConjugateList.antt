-- The conjugate list. Points and slopes change places, so a list `p0 s1 p1 s2 p2` read from its first finite point is
-- already the conjugate list, but for its two ends. `turned_front` settles the front at once; the back is settled where
-- the list ends, so each fact below is one on `turned_back (m :: rest)` behind the slope s, by induction on `Rest`:
--     .. s m t r ..      the list: the piece from m to r has the slope t
--     .. s m t r ..      the conjugate: the piece from s to t has the slope m
-- What bounds the tension at a point of the list (the slopes on its two sides) bounds the flow on a piece of the
-- conjugate, and the other way round; a missing piece at an infinite end of one is the domain's bound of the other.
use Rattle.std.proofs.Common.{◌≡◌, ℕ, ℤ, pos, ◌<ℤ◌, ◌≤ℤ◌, ◌*ℤ◌, true, false, if◌then◌else◌, List, ◌∷◌, refl, ap, arith}
use Rattle.std.proofs.lemmas.Int.{ints, by_lt_z}
use Rattle.theory.specs.declared.ext.Ext.{Ext}
use Rattle.theory.specs.declared.ext.Ext.TheVariants.{MinusInf, At, PlusInf}
use Rattle.theory.specs.Sums.{Each}
use Rattle.theory.specs.Ends.{is_finite, IsBelow, IsAtMost, IsBefore}
use Rattle.theory.specs.CurveList.{IsCurveList, pieces, last, before_last}
use Rattle.theory.specs.OnCurve.{FitsPiece, IsOnCurve}
use Rattle.theory.specs.Views.{turned_back, conjugate_items}
use Rattle.theory.specs.ViewLaws.{IsConjugate, ConjugateLaw, ConjugatePairLaw}
use Rattle.theory.proofs.Ends.{nothing_below}
use Rattle.theory.proofs.Shape.{Rest, ends, goes_on, Shape, single, long, shape_by_place, place_of_shape, less_of, less_in}

-- ---- it is a curve list

pub rest_turned : {s : ℤ} {m : Ext} {rest : List Ext} (a : ℤ) → IsBelow (At a) m → Rest s m rest
    → Rest a (At s) (turned_back (m ∷ rest))
rest_turned {m = MinusInf} a below ends = let h : false ≡ true = below in cc
rest_turned {m = At b} a below ends = goes_on (less_of a b below) refl ends
rest_turned {m = PlusInf} a below ends = ends
rest_turned a below (goes_on {s = s} {t = t} {b = b} rises next more) = goes_on (less_of a b below) (less_in s t rises) (rest_turned b next more)

-- a list that begins at minus infinity, without that
shape_turned : {s : ℤ} {m : Ext} {rest : List Ext} → IsBelow MinusInf m → Rest s m rest → Shape (At s ∷ turned_back (m ∷ rest))
shape_turned {m = MinusInf} below ends = let h : false ≡ true = below in cc
shape_turned {m = At b} below ends = long refl ends
shape_turned {m = PlusInf} below ends = single
shape_turned below (goes_on {s = s} {t = t} {b = b} rises next more) = long (less_in s t rises) (rest_turned b next more)

-- ---- its ends and those of its span

last_turned : {s : ℤ} {m : Ext} {rest : List Ext} (l : Ext) → IsBelow l m → Rest s m rest
    → last (At s ∷ turned_back (m ∷ rest)) ≡ (if is_finite (last (m ∷ rest)) then PlusInf else before_last (At s ∷ m ∷ rest))
last_turned {m = MinusInf} l below ends = absurd (nothing_below l below)
last_turned {m = At b} l below ends = refl
last_turned {m = PlusInf} l below ends = refl
last_turned l below (goes_on {b = b} rises next more) = last_turned (At b) next more

before_last_turned : {s : ℤ} {m : Ext} {rest : List Ext} (x l : Ext) → IsBelow l m → Rest s m rest
    → (if is_finite (last (At s ∷ turned_back (m ∷ rest))) then PlusInf else before_last (x ∷ At s ∷ turned_back (m ∷ rest))) ≡ last (m ∷ rest)
before_last_turned {m = MinusInf} x l below ends = absurd (nothing_below l below)
before_last_turned {m = At b} x l below ends = refl
before_last_turned {m = PlusInf} x l below ends = refl
before_last_turned x l below (goes_on {b = b} rises next more) = before_last_turned (At b) (At b) next more

-- of a list that began at minus infinity
before_last_first : {s : ℤ} {m : Ext} {rest : List Ext} → IsBelow MinusInf m → Rest s m rest
    → (if is_finite (last (At s ∷ turned_back (m ∷ rest))) then PlusInf else before_last (At s ∷ turned_back (m ∷ rest))) ≡ last (m ∷ rest)
before_last_first {m = MinusInf} below ends = let h : false ≡ true = below in cc
before_last_first {m = At b} below ends = refl
before_last_first {m = PlusInf} below ends = refl
before_last_first below (goes_on {b = b} rises next more) = before_last_turned (At b) (At b) next more

conjugate_of_shape : {items : List Ext} → Shape items → IsConjugate items
conjugate_of_shape single = record { is_list = place_of_shape (long refl ends); domain_low = refl; domain_high = refl; span_low = refl; span_high = refl }
conjugate_of_shape (long {l = MinusInf} below more) =
    record {
      is_list = place_of_shape (shape_turned below more);
      domain_low = refl;
      domain_high = last_turned MinusInf below more;
      span_low = refl;
      span_high = before_last_first below more;
    }
conjugate_of_shape (long {l = At a} below more) =
    record {
      is_list = place_of_shape (long refl (rest_turned a below more));
      domain_low = refl;
      domain_high = last_turned (At a) below more;
      span_low = refl;
      span_high = before_last_turned (At a) (At a) below more;
    }
conjugate_of_shape (long {l = PlusInf} below more) = let h : false ≡ true = below in cc

pub conjugate-is_list : ConjugateLaw
conjugate-is_list items list = conjugate_of_shape (shape_by_place items list)

-- ---- the conjugate of the conjugate

turned-twice : {s : ℤ} {m : Ext} {rest : List Ext} (l : Ext) → IsBelow l m → Rest s m rest
    → turned_back (At s ∷ turned_back (m ∷ rest)) ≡ At s ∷ m ∷ rest
turned-twice {m = MinusInf} l below ends = absurd (nothing_below l below)
turned-twice {m = At b} l below ends = refl
turned-twice {m = PlusInf} l below ends = refl
turned-twice l below (goes_on {s = s} {b = b} rises next more) = ap (λ items. At s ∷ At b ∷ items) (turned-twice (At b) next more)

items-conjugate_twice : {items : List Ext} → Shape items → conjugate_items (conjugate_items items) ≡ items
items-conjugate_twice single = refl
items-conjugate_twice (long {l = MinusInf} below more) = ap (λ items. MinusInf ∷ items) (turned-twice MinusInf below more)
items-conjugate_twice (long {l = At a} below more) = ap (λ items. At a ∷ items) (turned-twice (At a) below more)
items-conjugate_twice (long {l = PlusInf} below more) = let h : false ≡ true = below in cc

pub conjugate-items_twice : (items : List Ext) → IsCurveList items → conjugate_items (conjugate_items items) ≡ items
conjugate-items_twice items list = items-conjugate_twice (shape_by_place items list)

-- ---- a pair of the curve, swapped, is a pair of the conjugate

-- what is known of a pair behind the slope s: where the piece before the point m is left, and the pieces from m on
record Behind (q : ℕ) (x v s : ℤ) (m : Ext) (rest : List Ext) : Type 0 where
  before : IsBefore q m x → v ≤ℤ (pos q *ℤ s)
  most : IsAtMost q (last (m ∷ rest)) x
  on_pieces : Each (FitsPiece q x v) (pieces (m ∷ rest))

record Turned (q : ℕ) (x v s : ℤ) (m : Ext) (rest : List Ext) : Type 0 where
  most : IsAtMost q (last (At s ∷ turned_back (m ∷ rest))) v
  on_pieces : Each (FitsPiece q v x) (pieces (At s ∷ turned_back (m ∷ rest)))

-- the order of two numbers, one of which is at most the other unless an implication's premise holds
unless : (a b c d : ℤ) → (a <ℤ b → c ≤ℤ d) → d <ℤ c → b ≤ℤ a
unless a b c d h less = by_lt_z a b (λ l. let m = h l in absurd (omega (arith, ints))) (λ l. l)

pair_turned : (q : ℕ) (x v : ℤ) {s : ℤ} {m : Ext} {rest : List Ext} (l : Ext) → IsBelow l m → Rest s m rest
    → Behind q x v s m rest → Turned q x v s m rest
pair_turned q x v {m = MinusInf} l below ends behind = absurd (nothing_below l below)
pair_turned q x v {s = s} {m = At b} l below ends behind =
    record {
      most = tt;
      on_pieces = (record { begins_below = unless x (pos q *ℤ b) v (pos q *ℤ s) behind.before; ends_above = λ _. behind.most }, tt);
    }
pair_turned q x v {m = PlusInf} l below ends behind = record { most = behind.before tt; on_pieces = tt }
pair_turned q x v l below (goes_on {s = s} {t = t} {b = b} {r = r} rises next more) behind =
    let here = behind.on_pieces.0 in
    let turned = pair_turned q x v (At b) next more (record { before = here.ends_above; most = behind.most; on_pieces = behind.on_pieces.1 }) in
    record {
      most = turned.most;
      on_pieces = (
        record {
          begins_below = unless x (pos q *ℤ b) v (pos q *ℤ s) behind.before;
          ends_above = unless (pos q *ℤ b) x (pos q *ℤ t) v here.begins_below;
        },
        turned.on_pieces,
      );
    }

pair_of_shape : (q : ℕ) (x v : ℤ) {items : List Ext} → Shape items → IsOnCurve q items x v
    → IsOnCurve q (conjugate_items items) v x
pair_of_shape q x v single pair =
    record {
      in_domain = record { least = tt; most = tt };
      on_pieces = (record { begins_below = λ _. pair.in_domain.least; ends_above = λ _. pair.in_domain.most }, tt);
    }
pair_of_shape q x v (long {l = MinusInf} below more) pair =
    let first_fits = pair.on_pieces.0 in
    let turned = pair_turned q x v MinusInf below more (record { before = first_fits.ends_above; most = pair.in_domain.most; on_pieces = pair.on_pieces.1 }) in
    record { in_domain = record { least = first_fits.begins_below tt; most = turned.most }; on_pieces = turned.on_pieces }
pair_of_shape q x v (long {l = At a} {s = s} below more) pair =
    let first_fits = pair.on_pieces.0 in
    let turned = pair_turned q x v (At a) below more (record { before = first_fits.ends_above; most = pair.in_domain.most; on_pieces = pair.on_pieces.1 }) in
    record {
      in_domain = record { least = tt; most = turned.most };
      on_pieces =
          (record { begins_below = λ _. pair.in_domain.least; ends_above = unless (pos q *ℤ a) x (pos q *ℤ s) v first_fits.begins_below }, turned.on_pieces);
    }
pair_of_shape q x v (long {l = PlusInf} below more) pair = let h : false ≡ true = below in cc

pub conjugate-pair : ConjugatePairLaw
conjugate-pair q items x v list pair = pair_of_shape q x v (shape_by_place items list) pair
