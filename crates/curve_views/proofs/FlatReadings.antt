-- Readings of the zero-cost list, by the two ends of its domain: a single point, or two ends and the slope 0 between them.
-- A pair is a flow not outside the two ends and a tension that is not below 0 past the first end, and not above 0
-- before the last. So the slope on a side of a flow goes by which ends that side is past, and the range at a tension
-- by the tension's sign.
use Rattle.std.proofs.Common.{◌≡◌, ℕ, zero, suc, ◌+◌, ◌*◌, ◌/◌, ◌<◌, ℤ, pos, Bool, true, false, not, List, [], ◌∷◌, length, refl, arith}
use Rattle.std.specs.Prelude.{if◌then◌else◌}
use Rattle.theory.specs.declared.ext.Ext.{Ext}
use Rattle.theory.specs.declared.ext.Ext.TheVariants.{MinusInf, At, PlusInf}
use Rattle.theory.specs.Ends.{is_below, IsBelow}
use Rattle.theory.specs.CurveList.{IsCurveList, item, first, last}
use Rattle.theory.specs.Span.{span_low, span_high}
use Rattle.theory.specs.Views.{zero_cost_items}
use Rattle.theory.specs.Readings.{IsUnder, IsOver, AreBoth, IsSlopes, IsRange}
use Rattle.theory.proofs.Ends.{below_trans, below_asym}
use Rattle.theory.proofs.Shape.{Shape, ends, single, long, shape_by_place, place_of_shape}
use Rattle.theory.proofs.ZeroCost.{below_last}
use Rattle.mono_curve.proofs.Stairs.{false_unless}
use Rattle.mono_curve.proofs.ReadOff.{IsPair, pair_of_curve, curve_of_pair, under_not_above, not_above_under, over_not_below, not_below_over, clash}
use Rattle.curve_views.specs.ZeroCostReadings.{slope_past, slope_or}

-- ---- the ends of domain and span

first_of_shape : {items : List Ext} → Shape items → first (zero_cost_items items) ≡ first items
first_of_shape single = refl
first_of_shape (long below more) = refl

last_of_shape : {items : List Ext} → Shape items → last (zero_cost_items items) ≡ last items
last_of_shape single = refl
last_of_shape (long below more) = refl

span_low_of_shape : {items : List Ext} → Shape items → span_low (zero_cost_items items) ≡ slope_or (first items) MinusInf
span_low_of_shape single = refl
span_low_of_shape (long below more) = refl

span_high_of_shape : {items : List Ext} → Shape items → span_high (zero_cost_items items) ≡ slope_or (last items) PlusInf
span_high_of_shape single = refl
span_high_of_shape (long below more) = refl

pub first-zero_cost : (items : List Ext) → IsCurveList items → first (zero_cost_items items) ≡ first items
first-zero_cost items list = first_of_shape (shape_by_place items list)

pub last-zero_cost : (items : List Ext) → IsCurveList items → last (zero_cost_items items) ≡ last items
last-zero_cost items list = last_of_shape (shape_by_place items list)

pub span_low-zero_cost : (items : List Ext) → IsCurveList items → span_low (zero_cost_items items) ≡ slope_or (first items) MinusInf
span_low-zero_cost items list = span_low_of_shape (shape_by_place items list)

pub span_high-zero_cost : (items : List Ext) → IsCurveList items → span_high (zero_cost_items items) ≡ slope_or (last items) PlusInf
span_high-zero_cost items list = span_high_of_shape (shape_by_place items list)

-- ---- two ends

module _ (l r : Ext) (below : IsBelow l r) where
  abbrev flat : List Ext
  flat = l ∷ At (pos 0) ∷ r ∷ []

  flat-is_list : IsCurveList flat
  flat-is_list = place_of_shape (long below ends)

  later_past : (x : Ext) → is_below r x ≡ true → is_below l x ≡ true
  later_past x past = below_trans l r x below past

  earlier_before : (x : Ext) → is_below x l ≡ true → is_below x r ≡ true
  earlier_before x before = below_trans x l r before below

  -- what a pair is
  flat_pair : (x v : Ext) → is_below x l ≡ false → is_below r x ≡ false → (is_below l x ≡ true → is_below v (At (pos 0)) ≡ false)
      → (is_below x r ≡ true → is_below (At (pos 0)) v ≡ false) → IsPair flat x v
  flat_pair x v not_under not_over begins end =
      record {
        not_under = not_under;
        not_over = not_over;
        begins_below = only_begins;
        ends_above = only_ends;
      }
    where
      only_begins : (k : ℕ) → k < length flat / 2 → IsBelow (item flat (2 * k)) x → is_below v (item flat (2 * k + 1)) ≡ false
      only_begins zero inside h = begins h
      only_begins (suc k) inside h = absurd (omega arith)

      only_ends : (k : ℕ) → k < length flat / 2 → IsBelow x (item flat (2 * k + 2)) → is_below (item flat (2 * k + 1)) v ≡ false
      only_ends zero inside h = end h
      only_ends (suc k) inside h = absurd (omega arith)

  -- a b: whether the left side of x is past l, past r;  c d: whether x is before l, before r
  slope_under : (x v : ℤ) (a b : Bool) → is_below l (At x) ≡ a → is_below r (At x) ≡ b → IsPair flat (At x) (At v) → IsUnder (slope_past a b) v
  slope_under x v false false e f pair = tt
  slope_under x v false true e f pair = tt
  slope_under x v true false e f pair = not_above_under (At (pos 0)) v (pair.begins_below 0 (omega arith) e)
  slope_under x v true true e f pair = absurd (clash f pair.not_over)

  slope_over : (x v : ℤ) (c d : Bool) → is_below (At x) l ≡ c → is_below (At x) r ≡ d → IsPair flat (At x) (At v) → IsOver (slope_past (not c) (not d)) v
  slope_over x v false false e f pair = tt
  slope_over x v false true e f pair = not_below_over (At (pos 0)) v (pair.ends_above 0 (omega arith) f)
  slope_over x v true d e f pair = absurd (clash e pair.not_under)

  record Left (x v : ℤ) : Type 0 where
    not_over : is_below r (At x) ≡ false
    steep : is_below l (At x) ≡ true → is_below (At v) (At (pos 0)) ≡ false

  left_of : (x v : ℤ) (a b : Bool) → is_below l (At x) ≡ a → is_below r (At x) ≡ b → IsUnder (slope_past a b) v → Left x v
  left_of x v false false e f under = record { not_over = f; steep = λ past. absurd (clash past e) }
  left_of x v false true e f under = absurd (clash (later_past (At x) f) e)
  left_of x v true false e f under = record { not_over = f; steep = λ past. under_not_above (At (pos 0)) v under }
  left_of x v true true e f under = absurd under

  record Right (x v : ℤ) : Type 0 where
    not_under : is_below (At x) l ≡ false
    flat_enough : is_below (At x) r ≡ true → is_below (At (pos 0)) (At v) ≡ false

  right_of : (x v : ℤ) (c d : Bool) → is_below (At x) l ≡ c → is_below (At x) r ≡ d → IsOver (slope_past (not c) (not d)) v → Right x v
  right_of x v false false e f over = record { not_under = e; flat_enough = λ before. absurd (clash before f) }
  right_of x v false true e f over = record { not_under = e; flat_enough = λ before. over_not_below (At (pos 0)) v over }
  right_of x v true false e f over = absurd (clash (earlier_before (At x) e) f)
  right_of x v true true e f over = absurd over

  slopes_of_flat : (x : ℤ) → IsSlopes flat x (slope_past (is_below l (At x)) (is_below r (At x))) (slope_past (not (is_below (At x) l)) (not (is_below (At x) r)))
  slopes_of_flat x =
      record {
        pairs = λ v. (
          λ on. (let pair = pair_of_curve flat x v flat-is_list on in (
            slope_under x v (is_below l (At x)) (is_below r (At x)) refl refl pair,
            slope_over x v (is_below (At x) l) (is_below (At x) r) refl refl pair,
          )),
          λ between. (let left = left_of x v (is_below l (At x)) (is_below r (At x)) refl refl between.0 in
              let right = right_of x v (is_below (At x) l) (is_below (At x) r) refl refl between.1 in
              curve_of_pair flat x v flat-is_list (flat_pair (At x) (At v) right.not_under left.not_over left.steep right.flat_enough)),
        );
        below = λ before. (let past : is_below l (At x) ≡ false = below_asym (At x) l before in
            let later : is_below r (At x) ≡ false = below_asym (At x) r (earlier_before (At x) before) in
            record { one = rw (past, later) refl; other = rw (before, earlier_before (At x) before) refl });
        above = λ over. (let past = later_past (At x) over in
            record { one = rw (past, over) refl; other = rw (below_asym l (At x) past, below_asym r (At x) over) refl });
      }

  -- s t: whether the tension is above 0, below 0
  end_under : (x v : ℤ) (s : Bool) → is_below (At (pos 0)) (At v) ≡ s → IsPair flat (At x) (At v) → IsUnder (if s then r else l) x
  end_under x v true e pair = not_above_under r x (false_unless (is_below (At x) r) (λ before. clash e (pair.ends_above 0 (omega arith) before)))
  end_under x v false e pair = not_above_under l x pair.not_under

  end_over : (x v : ℤ) (t : Bool) → is_below (At v) (At (pos 0)) ≡ t → IsPair flat (At x) (At v) → IsOver (if not t then r else l) x
  end_over x v true e pair = not_below_over l x (false_unless (is_below l (At x)) (λ past. clash e (pair.begins_below 0 (omega arith) past)))
  end_over x v false e pair = not_below_over r x pair.not_over

  right_of_end : (x v : ℤ) (s : Bool) → is_below (At (pos 0)) (At v) ≡ s → IsUnder (if s then r else l) x → Right x v
  right_of_end x v true e under =
      let not_before = under_not_above r x under in
      record {
        not_under = false_unless (is_below (At x) l) (λ before. clash (earlier_before (At x) before) not_before);
        flat_enough = λ before. absurd (clash before not_before);
      }
  right_of_end x v false e under = record { not_under = under_not_above l x under; flat_enough = λ before. e }

  left_of_end : (x v : ℤ) (t : Bool) → is_below (At v) (At (pos 0)) ≡ t → IsOver (if not t then r else l) x → Left x v
  left_of_end x v true e over =
      let not_past = over_not_below l x over in
      record {
        not_over = false_unless (is_below r (At x)) (λ past. clash (later_past (At x) past) not_past);
        steep = λ past. absurd (clash past not_past);
      }
  left_of_end x v false e over = record { not_over = over_not_below r x over; steep = λ past. e }

-- the span's ends are 0 or infinite
under_zero : (l r : Ext) (v : ℤ) → IsBelow l r → IsBelow (At v) (slope_or l MinusInf) → AreBoth MinusInf (if is_below (At (pos 0)) (At v) then r else l) (if not (is_below (At v) (At (pos 0))) then r else l)
under_zero MinusInf r v below h = let other = below_asym (At v) (At (pos 0)) h in record { one = rw other refl; other = rw h refl }
under_zero (At a) r v below h = let f : false ≡ true = h in cc
under_zero PlusInf r v below h = let f : false ≡ true = below in cc

over_zero : (l r : Ext) (v : ℤ) → IsBelow l r → IsBelow (slope_or r PlusInf) (At v) → AreBoth PlusInf (if is_below (At (pos 0)) (At v) then r else l) (if not (is_below (At v) (At (pos 0))) then r else l)
over_zero l MinusInf v below h = absurd (below_nothing l below)
  where
    below_nothing : (e : Ext) → IsBelow e MinusInf → ⊥
    below_nothing MinusInf h = cc
    below_nothing (At a) h = cc
    below_nothing PlusInf h = cc
over_zero l (At b) v below h = let f : false ≡ true = h in cc
over_zero l PlusInf v below h = let other = below_asym (At (pos 0)) (At v) h in record { one = rw h refl; other = rw other refl }

range_of_flat : (l r : Ext) (below : IsBelow l r) (v : ℤ) → IsRange (l ∷ At (pos 0) ∷ r ∷ []) v (if is_below (At (pos 0)) (At v) then r else l) (if not (is_below (At v) (At (pos 0))) then r else l)
range_of_flat l r below v =
    let items = l ∷ At (pos 0) ∷ r ∷ [] in
    let list = flat-is_list l r below in
    record {
      pairs = λ x. (
        λ on. (let pair = pair_of_curve items x v list on in (
          end_under l r below x v (is_below (At (pos 0)) (At v)) refl pair,
          end_over l r below x v (is_below (At v) (At (pos 0))) refl pair,
        )),
        λ between. (let right = right_of_end l r below x v (is_below (At (pos 0)) (At v)) refl between.0 in
            let left = left_of_end l r below x v (is_below (At v) (At (pos 0))) refl between.1 in
            curve_of_pair items x v list (flat_pair l r below (At x) (At v) right.not_under left.not_over left.steep right.flat_enough)),
      );
      below = under_zero l r v below;
      above = over_zero l r v below;
    }

-- ---- a single point

module _ (p : ℤ) where
  abbrev point : List Ext
  point = At p ∷ []

  point-is_list : IsCurveList point
  point-is_list = place_of_shape single

  point_pair : (x v : Ext) → is_below x (At p) ≡ false → is_below (At p) x ≡ false → IsPair point x v
  point_pair x v not_under not_over =
      record {
        not_under = not_under;
        not_over = not_over;
        begins_below = λ k inside h. absurd (omega arith);
        ends_above = λ k inside h. absurd (omega arith);
      }

  past_both : (v : ℤ) (b : Bool) → b ≡ false → IsUnder (slope_past b b) v
  past_both v false e = tt
  past_both v true e = cc

  before_both : (v : ℤ) (b : Bool) → b ≡ false → IsOver (slope_past (not b) (not b)) v
  before_both v false e = tt
  before_both v true e = cc

  not_past : (v : ℤ) (b : Bool) → IsUnder (slope_past b b) v → b ≡ false
  not_past v false under = refl
  not_past v true under = absurd under

  not_before : (v : ℤ) (b : Bool) → IsOver (slope_past (not b) (not b)) v → b ≡ false
  not_before v false over = refl
  not_before v true over = absurd over

  slopes_of_point : (x : ℤ) → IsSlopes point x (slope_past (is_below (At p) (At x)) (is_below (At p) (At x))) (slope_past (not (is_below (At x) (At p))) (not (is_below (At x) (At p))))
  slopes_of_point x =
      record {
        pairs = λ v. (
          λ on. (let pair = pair_of_curve point x v point-is_list on in (past_both v (is_below (At p) (At x)) pair.not_over, before_both v (is_below (At x) (At p)) pair.not_under)),
          λ between. curve_of_pair point x v point-is_list
              (point_pair (At x) (At v) (not_before v (is_below (At x) (At p)) between.1) (not_past v (is_below (At p) (At x)) between.0)),
        );
        below = λ before. (let past = below_asym (At x) (At p) before in record { one = rw past refl; other = rw before refl });
        above = λ past. (let before = below_asym (At p) (At x) past in record { one = rw past refl; other = rw before refl });
      }

  range_of_point : (v : ℤ) (low high : Ext) → low ≡ At p → high ≡ At p → IsRange point v low high
  range_of_point v low high d e =
      rw (d, e)
      (record {
        pairs = λ x. (
          λ on. (let pair = pair_of_curve point x v point-is_list on in (not_above_under (At p) x pair.not_under, not_below_over (At p) x pair.not_over)),
          λ between. curve_of_pair point x v point-is_list (point_pair (At x) (At v) (under_not_above (At p) x between.0) (over_not_below (At p) x between.1)),
        );
        below = λ outside. (let f : false ≡ true = outside in cc);
        above = λ outside. (let f : false ≡ true = outside in cc);
      })

either : (b : Bool) (e : Ext) → (if b then e else e) ≡ e
either true e = refl
either false e = refl

-- ---- the readings

slopes_of_shape : {items : List Ext} → Shape items → (x : ℤ)
    → IsSlopes (zero_cost_items items) x (slope_past (is_below (first items) (At x)) (is_below (last items) (At x))) (slope_past (not (is_below (At x) (first items))) (not (is_below (At x) (last items))))
slopes_of_shape (single {p = p}) x = slopes_of_point p x
slopes_of_shape (long {l = l} {m = m} {rest = rest} below more) x = slopes_of_flat l (last (m ∷ rest)) (below_last l below more) x

pub slopes-zero_cost : (items : List Ext) → IsCurveList items → (x : ℤ)
    → IsSlopes (zero_cost_items items) x (slope_past (is_below (first items) (At x)) (is_below (last items) (At x))) (slope_past (not (is_below (At x) (first items))) (not (is_below (At x) (last items))))
slopes-zero_cost items list x = slopes_of_shape (shape_by_place items list) x

range_of_shape : {items : List Ext} → Shape items → (v : ℤ)
    → IsRange (zero_cost_items items) v (if is_below (At (pos 0)) (At v) then last items else first items) (if not (is_below (At v) (At (pos 0))) then last items else first items)
range_of_shape (single {p = p}) v = range_of_point p v _ _ (either (is_below (At (pos 0)) (At v)) (At p)) (either (not (is_below (At v) (At (pos 0)))) (At p))
range_of_shape (long {l = l} {m = m} {rest = rest} below more) v = range_of_flat l (last (m ∷ rest)) (below_last l below more) v

pub range-zero_cost : (items : List Ext) → IsCurveList items → (v : ℤ)
    → IsRange (zero_cost_items items) v (if is_below (At (pos 0)) (At v) then last items else first items) (if not (is_below (At v) (At (pos 0))) then last items else first items)
range-zero_cost items list v = range_of_shape (shape_by_place items list) v
