-- Slopes and range, read off a list by places. Flow and tension enter as ends, so that all that follows is about the
-- strict order of ends: a pair is on the curve where the flow is not outside the first and the last point, and each
-- piece that begins below it has no greater slope than the tension, each that ends above it no lesser one (`IsPair`).
-- Since points and slopes rise, the points below the flow are the first ones, and of their pieces the last is the
-- steepest. So the number of points below the flow tells the slope on its left, and that of the points up to it the
-- slope on its right; the numbers of slopes below and up to the tension tell the two ends of the range.
use Rattle.std.proofs.Common.{◌≡◌, ℕ, zero, suc, ◌+◌, ◌-◌, ◌*◌, ◌/◌, ◌<◌, ◌≤◌, ℤ, pos, Bool, true, false, List, length, refl, ◌∙◌, inl, inr, arith}
use Rattle.std.specs.Prelude.{◌≤ℤ◌, ◌*ℤ◌, ◌⊎◌, if◌then◌else◌}
use Rattle.std.proofs.lemmas.Bool.{cases_lt}
use Rattle.std.proofs.lemmas.Int.{ints}
use Rattle.theory.specs.declared.ext.Ext.{Ext}
use Rattle.theory.specs.declared.ext.Ext.TheVariants.{MinusInf, At, PlusInf}
use Rattle.theory.specs.Ends.{whole, is_finite, IsFinite, is_below, IsBelow, IsAtLeast, IsAtMost, IsPast, IsBefore}
use Rattle.theory.specs.CurveList.{IsCurveList, item, first, last, before_last}
use Rattle.theory.specs.OnCurve.{IsOnCurve}
use Rattle.theory.specs.Readings.{IsUnder, IsOver, IsSlopes, IsRange}
use Rattle.theory.proofs.Ends.{below_asym}
use Rattle.theory.proofs.Places.{first_at, last_at, before_last_at, longer, on_curve_by_pieces, piece_on_curve}
use Rattle.mono_curve.specs.Halving.{IsTurn, IsSlopeBefore, count_from, is_item_below, is_item_up_to}
use Rattle.mono_curve.proofs.Stairs.{false_unless, not_true, not_false, below_minus, later_not_below, earlier_not_above}

-- ---- bounds of numbers by ends, as the order of ends

pub under_not_above : (e : Ext) (z : ℤ) → IsUnder e z → is_below (At z) e ≡ false
under_not_above MinusInf z h = refl
under_not_above (At a) z h = grind (arith, ints)
under_not_above PlusInf z h = absurd h

pub not_above_under : (e : Ext) (z : ℤ) → is_below (At z) e ≡ false → IsUnder e z
not_above_under MinusInf z h = tt
not_above_under (At a) z h = grind (arith, ints)
not_above_under PlusInf z h = cc

pub over_not_below : (e : Ext) (z : ℤ) → IsOver e z → is_below e (At z) ≡ false
over_not_below MinusInf z h = absurd h
over_not_below (At b) z h = grind (arith, ints)
over_not_below PlusInf z h = refl

pub not_below_over : (e : Ext) (z : ℤ) → is_below e (At z) ≡ false → IsOver e z
not_below_over MinusInf z h = cc
not_below_over (At b) z h = grind (arith, ints)
not_below_over PlusInf z h = tt

pub least_not_above : (e : Ext) (x : ℤ) → (e ≡ PlusInf → ⊥) → IsAtLeast 1 e x → is_below (At x) e ≡ false
least_not_above MinusInf x finite h = refl
least_not_above (At a) x finite h = grind (arith, ints)
least_not_above PlusInf x finite h = absurd (finite refl)

pub not_above_least : (e : Ext) (x : ℤ) → is_below (At x) e ≡ false → IsAtLeast 1 e x
not_above_least MinusInf x h = tt
not_above_least (At a) x h = grind (arith, ints)
not_above_least PlusInf x h = tt

pub most_not_below : (e : Ext) (x : ℤ) → (e ≡ MinusInf → ⊥) → IsAtMost 1 e x → is_below e (At x) ≡ false
most_not_below MinusInf x finite h = absurd (finite refl)
most_not_below (At b) x finite h = grind (arith, ints)
most_not_below PlusInf x finite h = refl

pub not_below_most : (e : Ext) (x : ℤ) → is_below e (At x) ≡ false → IsAtMost 1 e x
not_below_most MinusInf x h = tt
not_below_most (At b) x h = grind (arith, ints)
not_below_most PlusInf x h = tt

pub past_below : (e : Ext) (x : ℤ) → (e ≡ PlusInf → ⊥) → IsPast 1 e x → IsBelow e (At x)
past_below MinusInf x finite h = refl
past_below (At a) x finite h = grind (arith, ints)
past_below PlusInf x finite h = absurd (finite refl)

below_past : (e : Ext) (x : ℤ) → IsBelow e (At x) → IsPast 1 e x
below_past MinusInf x h = tt
below_past (At a) x h = grind (arith, ints)
below_past PlusInf x h = tt

pub before_above : (e : Ext) (x : ℤ) → (e ≡ MinusInf → ⊥) → IsBefore 1 e x → IsBelow (At x) e
before_above MinusInf x finite h = absurd (finite refl)
before_above (At b) x finite h = grind (arith, ints)
before_above PlusInf x finite h = refl

above_before : (e : Ext) (x : ℤ) → IsBelow (At x) e → IsBefore 1 e x
above_before MinusInf x h = tt
above_before (At b) x h = grind (arith, ints)
above_before PlusInf x h = tt

slope_most : (s : Ext) (v : ℤ) → IsFinite s → (pos 1 *ℤ whole s) ≤ℤ v → is_below (At v) s ≡ false
slope_most MinusInf v finite h = cc
slope_most (At s) v finite h = grind (arith, ints)
slope_most PlusInf v finite h = cc

most_slope : (s : Ext) (v : ℤ) → IsFinite s → is_below (At v) s ≡ false → (pos 1 *ℤ whole s) ≤ℤ v
most_slope MinusInf v finite h = cc
most_slope (At s) v finite h = grind (arith, ints)
most_slope PlusInf v finite h = cc

slope_least : (s : Ext) (v : ℤ) → IsFinite s → v ≤ℤ (pos 1 *ℤ whole s) → is_below s (At v) ≡ false
slope_least MinusInf v finite h = cc
slope_least (At s) v finite h = grind (arith, ints)
slope_least PlusInf v finite h = cc

least_slope : (s : Ext) (v : ℤ) → IsFinite s → is_below s (At v) ≡ false → v ≤ℤ (pos 1 *ℤ whole s)
least_slope MinusInf v finite h = cc
least_slope (At s) v finite h = grind (arith, ints)
least_slope PlusInf v finite h = cc

above_nothing : (e : Ext) → is_below e MinusInf ≡ false
above_nothing MinusInf = refl
above_nothing (At a) = refl
above_nothing PlusInf = refl

pub minus_unless_plus : (e : Ext) → is_finite e ≡ false → (e ≡ PlusInf → ⊥) → e ≡ MinusInf
minus_unless_plus MinusInf h other = refl
minus_unless_plus (At a) h other = cc
minus_unless_plus PlusInf h other = absurd (other refl)

pub plus_unless_minus : (e : Ext) → is_finite e ≡ false → (e ≡ MinusInf → ⊥) → e ≡ PlusInf
plus_unless_minus MinusInf h other = absurd (other refl)
plus_unless_minus (At a) h other = cc
plus_unless_minus PlusInf h other = refl

pub clash : {b : Bool} → b ≡ true → b ≡ false → ⊥
clash g h = cc

-- ---- pairs by the order of ends

pub record IsPair (items : List Ext) (x v : Ext) : Type 0 where
  pub not_under : is_below x (item items 0) ≡ false
  pub not_over : is_below (item items (2 * (length items / 2))) x ≡ false
  pub begins_below : (k : ℕ) → k < length items / 2 → IsBelow (item items (2 * k)) x → is_below v (item items (2 * k + 1)) ≡ false
  pub ends_above : (k : ℕ) → k < length items / 2 → IsBelow x (item items (2 * k + 2)) → is_below (item items (2 * k + 1)) v ≡ false

plus_below : (d : Ext) → IsBelow PlusInf d → ⊥
plus_below d h = cc

pub first_finite : (items : List Ext) → IsCurveList items → (k : ℕ) → k < length items / 2 → item items (2 * k) ≡ PlusInf → ⊥
first_finite items list k h e = plus_below (item items (2 * k + 2)) (rw e at (list.rises (2 * k) (omega arith)))

pub last_finite : (items : List Ext) → IsCurveList items → (k : ℕ) → k < length items / 2 → item items (2 * k + 2) ≡ MinusInf → ⊥
last_finite items list k h e = below_minus (item items (2 * k)) (rw e at (list.rises (2 * k) (omega arith)))

pub slope_finite : (items : List Ext) → IsCurveList items → (k : ℕ) → k < length items / 2 → IsFinite (item items (2 * k + 1))
slope_finite items list k h = list.inner_finite (2 * k + 1) (omega arith) (omega arith)

single_is : (items : List Ext) → IsCurveList items → (e : Ext) → is_finite e ≡ false → length items ≡ 1 → item items 0 ≡ e → ⊥
single_is items list e infinite one same = let h = rw same at (list.single_finite one) in cc

pub first_not_plus : (items : List Ext) → IsCurveList items → item items 0 ≡ PlusInf → ⊥
first_not_plus items list e = elim (cases_lt 0 (length items / 2)) [ inl more ↦ first_finite items list 0 more e | inr none ↦ single_is items list PlusInf refl (omega (arith, list.odd)) e ]

pub last_not_minus : (items : List Ext) → IsCurveList items → item items (2 * (length items / 2)) ≡ MinusInf → ⊥
last_not_minus items list e = elim (cases_lt 0 (length items / 2)) [
  | inl more ↦ (let at_end : 2 * (length items / 2 - 1) + 2 ≡ 2 * (length items / 2) = omega arith in last_finite items list (length items / 2 - 1) (omega arith) (rw at_end e))
  | inr none ↦ (let at_start : 2 * (length items / 2) ≡ 0 = omega arith in single_is items list MinusInf refl (omega (arith, list.odd)) (rw at_start at e))
]

pub last_is : (items : List Ext) → IsCurveList items → item items (2 * (length items / 2)) ≡ last items
last_is items list = last_at items (2 * (length items / 2)) (omega (arith, list.odd))

pub pair_of_curve : (items : List Ext) (x v : ℤ) → IsCurveList items → IsOnCurve 1 items x v → IsPair items (At x) (At v)
pair_of_curve items x v list on =
    record {
      not_under = least_not_above (item items 0) x (first_not_plus items list) (rw (first_at items) on.in_domain.least);
      not_over = most_not_below (item items (2 * (length items / 2))) x (last_not_minus items list) (rw (last_is items list) on.in_domain.most);
      begins_below = λ k h below. slope_most (item items (2 * k + 1)) v (slope_finite items list k h) ((piece_on_curve items x v list on k h).begins_below (below_past (item items (2 * k)) x below));
      ends_above = λ k h above. slope_least (item items (2 * k + 1)) v (slope_finite items list k h) ((piece_on_curve items x v list on k h).ends_above (above_before (item items (2 * k + 2)) x above));
    }

pub curve_of_pair : (items : List Ext) (x v : ℤ) → IsCurveList items → IsPair items (At x) (At v) → IsOnCurve 1 items x v
curve_of_pair items x v list pair =
    on_curve_by_pieces items x v list
    (record {
      least = rw (← first_at items) (not_above_least (item items 0) x pair.not_under);
      most = rw (← last_is items list) (not_below_most (item items (2 * (length items / 2))) x pair.not_over);
    })
    (λ k h. record {
      begins_below = λ past. most_slope (item items (2 * k + 1)) v (slope_finite items list k h) (pair.begins_below k h (past_below (item items (2 * k)) x (first_finite items list k h) past));
      ends_above = λ before. least_slope (item items (2 * k + 1)) v (slope_finite items list k h) (pair.ends_above k h (before_above (item items (2 * k + 2)) x (last_finite items list k h) before));
    })

-- ---- places of points: `2 * j + 0` is `2 * j`

pub point_below : (items : List Ext) (e : Ext) (k : ℕ) → IsTurn (is_item_below items 0 e) (count_from items 0) k → (j : ℕ) → j < k → IsBelow (item items (2 * j)) e
point_below items e k turn j h = let place : 2 * j + 0 ≡ 2 * j = omega arith in rw place at (turn.before j h)

pub point_not_below : (items : List Ext) (e : Ext) (k : ℕ) → IsCurveList items → IsTurn (is_item_below items 0 e) (count_from items 0) k → (j : ℕ) → k ≤ j → j ≤ length items / 2 → is_below (item items (2 * j)) e ≡ false
point_not_below items e k list turn j h inside = let place : 2 * j + 0 ≡ 2 * j = omega arith in rw place at (turn.after j h (omega (arith, list.odd)))

point_not_above : (items : List Ext) (e : Ext) (k : ℕ) → IsTurn (is_item_up_to items 0 e) (count_from items 0) k → (j : ℕ) → j < k → is_below e (item items (2 * j)) ≡ false
point_not_above items e k turn j h = let place : 2 * j + 0 ≡ 2 * j = omega arith in not_true (is_below e (item items (2 * j))) (rw place at (turn.before j h))

point_above : (items : List Ext) (e : Ext) (k : ℕ) → IsCurveList items → IsTurn (is_item_up_to items 0 e) (count_from items 0) k → (j : ℕ) → k ≤ j → j ≤ length items / 2 → IsBelow e (item items (2 * j))
point_above items e k list turn j h inside = let place : 2 * j + 0 ≡ 2 * j = omega arith in not_false (is_below e (item items (2 * j))) (rw place at (turn.after j h (omega (arith, list.odd))))

pub later_point : (items : List Ext) → IsCurveList items → (x : Ext) (j k : ℕ) → j ≤ k → k ≤ length items / 2 → is_below (item items (2 * j)) x ≡ false → is_below (item items (2 * k)) x ≡ false
later_point items list x j k order inside h =
    let a : 2 * j + 0 ≡ 2 * j = omega arith in
    let b : 2 * k + 0 ≡ 2 * k = omega arith in
    rw b at (later_not_below items list x 0 j k order (omega (arith, list.odd)) (rw a h))

pub earlier_point : (items : List Ext) → IsCurveList items → (x : Ext) (j k : ℕ) → j ≤ k → k ≤ length items / 2 → is_below x (item items (2 * k)) ≡ false → is_below x (item items (2 * j)) ≡ false
earlier_point items list x j k order inside h =
    let a : 2 * j + 0 ≡ 2 * j = omega arith in
    let b : 2 * k + 0 ≡ 2 * k = omega arith in
    rw a at (earlier_not_above items list x 0 j k order (omega (arith, list.odd)) (rw b h))

-- ---- slopes

module _ (items : List Ext) (list : IsCurveList items) (x v : Ext) where
  pair_over_low : (i : ℕ) (low : Ext) → IsTurn (is_item_below items 0 x) (count_from items 0) i → IsSlopeBefore items i low → IsPair items x v → is_below v low ≡ false
  pair_over_low zero low turn slope pair = rw (slope.at_first refl) (above_nothing v)
  pair_over_low (suc j) low turn slope pair = elim (cases_lt j (length items / 2)) [
    | inl inside ↦ rw (slope.inside j (omega arith) inside) (pair.begins_below j inside (point_below items x (suc j) turn j (omega arith)))
    | inr past ↦ absurd (clash (point_below items x (suc j) turn (length items / 2) (omega arith)) pair.not_over)
  ]

  pair_under_high : (u : ℕ) (high : Ext) → IsTurn (is_item_up_to items 0 x) (count_from items 0) u → IsSlopeBefore items u high → IsPair items x v → is_below high v ≡ false
  pair_under_high zero high turn slope pair = absurd (clash (point_above items x 0 list turn 0 (omega arith) (omega arith)) pair.not_under)
  pair_under_high (suc j) high turn slope pair = elim (cases_lt j (length items / 2)) [
    | inl inside ↦ (let place : 2 * suc j ≡ 2 * j + 2 = omega arith in
        let above : IsBelow x (item items (2 * j + 2)) = rw place at (point_above items x (suc j) list turn (suc j) (omega arith) (omega arith)) in
        rw (slope.inside j (omega arith) inside) (pair.ends_above j inside above))
    | inr past ↦ rw (slope.past_last (omega arith)) refl
  ]

-- where the tension lies between the two slopes, how far the two numbers of points go
module _ (items : List Ext) (list : IsCurveList items) (v : ℤ) where
  slope_within_list : (i : ℕ) (low : Ext) → IsSlopeBefore items i low → is_below (At v) low ≡ false → i ≤ length items / 2
  slope_within_list i low slope over = elim (cases_lt (length items / 2) i) [ inl past ↦ (let end = rw (slope.past_last past) at over in cc) | inr inside ↦ inside ]

  slope_after_first : (u : ℕ) (high : Ext) → IsSlopeBefore items u high → is_below high (At v) ≡ false → 1 ≤ u
  slope_after_first zero high slope under = let end = rw (slope.at_first refl) at under in cc
  slope_after_first (suc j) high slope under = omega arith

  slopes_begin : (x : Ext) (i k : ℕ) (low : Ext) → IsTurn (is_item_below items 0 x) (count_from items 0) i → IsSlopeBefore items i low → is_below (At v) low ≡ false
      → k < length items / 2 → IsBelow (item items (2 * k)) x → is_below (At v) (item items (2 * k + 1)) ≡ false
  slopes_begin x i k low turn slope over inside below = elim (cases_lt k i) [
    | inl less ↦ (let most = slope_within_list i low slope over in
        let last_slope = rw (slope.inside (i - 1) (omega arith) (omega arith)) at over in
        earlier_not_above items list (At v) 1 k (i - 1) (omega arith) (omega arith) last_slope)
    | inr more ↦ absurd (clash below (point_not_below items x i list turn k more (omega arith)))
  ]

  slopes_end : (x : Ext) (u k : ℕ) (high : Ext) → IsTurn (is_item_up_to items 0 x) (count_from items 0) u → IsSlopeBefore items u high → is_below high (At v) ≡ false
      → k < length items / 2 → IsBelow x (item items (2 * k + 2)) → is_below (item items (2 * k + 1)) (At v) ≡ false
  slopes_end x u k high turn slope under inside above = elim (cases_lt (k + 1) u) [
    | inl less ↦ (let place : 2 * (k + 1) ≡ 2 * k + 2 = omega arith in absurd (clash above (rw place at (point_not_above items x u turn (k + 1) less))))
    | inr more ↦ (let least = slope_after_first u high slope under in
        let first_slope = rw (slope.inside (u - 1) (omega arith) (omega arith)) at under in
        later_not_below items list (At v) 1 (u - 1) k (omega arith) (omega arith) first_slope)
  ]

  pair_of_slopes : (x : Ext) (i u : ℕ) (low high : Ext) → IsTurn (is_item_below items 0 x) (count_from items 0) i → IsTurn (is_item_up_to items 0 x) (count_from items 0) u
      → IsSlopeBefore items i low → IsSlopeBefore items u high → is_below (At v) low ≡ false → is_below high (At v) ≡ false → IsPair items x (At v)
  pair_of_slopes x i u low high below up_to left right over under =
      record {
        not_under = point_not_above items x u up_to 0 (slope_after_first u high right under);
        not_over = point_not_below items x i list below (length items / 2) (slope_within_list i low left over) (omega arith);
        begins_below = λ k inside h. slopes_begin x i k low below left over inside h;
        ends_above = λ k inside h. slopes_end x u k high up_to right under inside h;
      }

no_points_below : (items : List Ext) (x : Ext) (i : ℕ) → IsBelow x (item items 0) → IsTurn (is_item_below items 0 x) (count_from items 0) i → i ≡ 0
no_points_below items x zero outside turn = refl
no_points_below items x (suc j) outside turn = absurd (clash (point_below items x (suc j) turn 0 (omega arith)) (below_asym x (item items 0) outside))

no_points_up_to : (items : List Ext) (x : Ext) (u : ℕ) → IsBelow x (item items 0) → IsTurn (is_item_up_to items 0 x) (count_from items 0) u → u ≡ 0
no_points_up_to items x zero outside turn = refl
no_points_up_to items x (suc j) outside turn = absurd (clash outside (point_not_above items x (suc j) turn 0 (omega arith)))

all_points_below : (items : List Ext) (x : Ext) (i : ℕ) → IsCurveList items → IsBelow (item items (2 * (length items / 2))) x → IsTurn (is_item_below items 0 x) (count_from items 0) i → length items / 2 < i
all_points_below items x i list outside turn = elim (cases_lt (length items / 2) i) [ inl past ↦ past | inr inside ↦ absurd (clash outside (point_not_below items x i list turn (length items / 2) inside (omega arith))) ]

all_points_up_to : (items : List Ext) (x : Ext) (u : ℕ) → IsCurveList items → IsBelow (item items (2 * (length items / 2))) x → IsTurn (is_item_up_to items 0 x) (count_from items 0) u → length items / 2 < u
all_points_up_to items x u list outside turn = elim (cases_lt (length items / 2) u) [
  | inl past ↦ past
  | inr inside ↦ absurd (clash (point_above items x u list turn (length items / 2) inside (omega arith)) (below_asym (item items (2 * (length items / 2))) x outside))
]

pub slopes_by_turns : (items : List Ext) (x : ℤ) (i u : ℕ) (low high : Ext) → IsCurveList items → IsTurn (is_item_below items 0 (At x)) (count_from items 0) i → IsTurn (is_item_up_to items 0 (At x)) (count_from items 0) u
    → IsSlopeBefore items i low → IsSlopeBefore items u high → IsSlopes items x low high
slopes_by_turns items x i u low high list below up_to left right =
    record {
      pairs = λ v. (
        λ on. (let pair = pair_of_curve items x v list on in (
          not_above_under low v (pair_over_low items list (At x) (At v) i low below left pair),
          not_below_over high v (pair_under_high items list (At x) (At v) u high up_to right pair),
        )),
        λ between. curve_of_pair items x v list (pair_of_slopes items list v (At x) i u low high below up_to left right (under_not_above low v between.0) (over_not_below high v between.1)),
      );
      below = λ outside. (let first_above : IsBelow (At x) (item items 0) = rw (first_at items) outside in
          record { one = left.at_first (no_points_below items (At x) i first_above below); other = right.at_first (no_points_up_to items (At x) u first_above up_to) });
      above = λ outside. (let last_below : IsBelow (item items (2 * (length items / 2))) (At x) = rw (last_is items list) outside in
          record { one = left.past_last (all_points_below items (At x) i list last_below below); other = right.past_last (all_points_up_to items (At x) u list last_below up_to) });
    }

-- ---- range

module _ (items : List Ext) (list : IsCurveList items) (x v : Ext) where
  pair_over_least : (i : ℕ) → IsTurn (is_item_below items 1 v) (count_from items 1) i → IsPair items x v → is_below x (item items (2 * i)) ≡ false
  pair_over_least zero turn pair = pair.not_under
  pair_over_least (suc j) turn pair =
      false_unless (is_below x (item items (2 * suc j)))
      (λ above. let place : 2 * suc j ≡ 2 * j + 2 = omega arith in
      let inside : j < length items / 2 = omega (arith, turn.within) in
      clash (turn.before j (omega arith)) (pair.ends_above j inside (rw place at above)))

  pair_under_most : (u : ℕ) → IsTurn (is_item_up_to items 1 v) (count_from items 1) u → IsPair items x v → is_below (item items (2 * u)) x ≡ false
  pair_under_most u turn pair = elim (cases_lt u (length items / 2)) [
    | inl inside ↦ false_unless (is_below (item items (2 * u)) x) (λ below. clash (not_false (is_below v (item items (2 * u + 1))) (turn.after u (omega arith) (omega arith))) (pair.begins_below u inside below))
    | inr past ↦ (let end : u ≡ length items / 2 = omega (arith, turn.within) in rw end pair.not_over)
  ]

  pair_of_range : (i u : ℕ) → IsTurn (is_item_below items 1 v) (count_from items 1) i → IsTurn (is_item_up_to items 1 v) (count_from items 1) u
      → is_below x (item items (2 * i)) ≡ false → is_below (item items (2 * u)) x ≡ false → IsPair items x v
  pair_of_range i u below up_to over under =
      record {
        not_under = earlier_point items list x 0 i (omega arith) (omega (arith, below.within)) over;
        not_over = later_point items list x u (length items / 2) (omega (arith, up_to.within)) (omega arith) under;
        begins_below = λ k inside h. false_unless (is_below v (item items (2 * k + 1)))
            (λ steep. clash h (later_point items list x u k (turn_up_to k steep) (omega arith) under));
        ends_above = λ k inside h. false_unless (is_below (item items (2 * k + 1)) v)
            (λ flat. let place : 2 * (k + 1) ≡ 2 * k + 2 = omega arith in
            clash h (rw place at (earlier_point items list x (k + 1) i (turn_below k inside flat) (omega (arith, below.within)) over)));
      }
    where
      turn_up_to : (k : ℕ) → is_below v (item items (2 * k + 1)) ≡ true → u ≤ k
      turn_up_to k steep = elim (cases_lt k u) [ inl less ↦ absurd (clash steep (not_true (is_below v (item items (2 * k + 1))) (up_to.before k less))) | inr more ↦ more ]

      turn_below : (k : ℕ) → k < length items / 2 → is_below (item items (2 * k + 1)) v ≡ true → k + 1 ≤ i
      turn_below k inside flat = elim (cases_lt k i) [ inl less ↦ omega arith | inr more ↦ absurd (clash flat (below.after k more (omega arith))) ]

not_finite_first : (items : List Ext) → IsCurveList items → is_finite (first items) ≡ false → first items ≡ MinusInf
not_finite_first items list endless = minus_unless_plus (first items) endless (λ plus. first_not_plus items list (first_at items ∙ plus))

not_finite_last : (items : List Ext) → IsCurveList items → is_finite (last items) ≡ false → last items ≡ PlusInf
not_finite_last items list endless = plus_unless_minus (last items) endless (λ minus. last_not_minus items list (last_is items list ∙ minus))

-- a tension outside the span, on either side, and what the list is then
record IsUnderSpan (items : List Ext) (v : Ext) : Type 0 where
  endless : first items ≡ MinusInf
  some : 1 ≤ length items / 2
  under : IsBelow v (item items 1)

under_span : (items : List Ext) → IsCurveList items → (v : ℤ) (b : Bool) → is_finite (first items) ≡ b → IsBelow (At v) (if b then MinusInf else item items 1) → IsUnderSpan items (At v)
under_span items list v true finite outside = cc
under_span items list v false endless outside =
    record {
      endless = not_finite_first items list endless;
      some = long_enough (cases_lt 0 (length items / 2));
      under = outside;
    }
  where
    long_enough : (0 < length items / 2) ⊎ (length items / 2 ≤ 0) → 1 ≤ length items / 2
    long_enough (inl more) = more
    long_enough (inr none) = absurd (single_is items list MinusInf refl (omega (arith, list.odd)) (first_at items ∙ not_finite_first items list endless))

record IsOverSpan (items : List Ext) (v : Ext) : Type 0 where
  endless : last items ≡ PlusInf
  some : 1 ≤ length items / 2
  over : IsBelow (item items (2 * (length items / 2 - 1) + 1)) v

over_span : (items : List Ext) → IsCurveList items → (v : ℤ) (b : Bool) → is_finite (last items) ≡ b → IsBelow (if b then PlusInf else before_last items) (At v) → IsOverSpan items (At v)
over_span items list v true finite outside = cc
over_span items list v false endless outside =
    let long = longer items list endless in
    let there : item items (2 * (length items / 2 - 1) + 1) ≡ before_last items = before_last_at items (2 * (length items / 2 - 1) + 1) (omega (arith, list.odd)) in
    record { endless = not_finite_last items list endless; some = omega arith; over = rw there outside }

no_slopes_below : (items : List Ext) (v : Ext) (i : ℕ) → IsBelow v (item items 1) → IsTurn (is_item_below items 1 v) (count_from items 1) i → i ≡ 0
no_slopes_below items v zero outside turn = refl
no_slopes_below items v (suc j) outside turn = absurd (clash (turn.before 0 (omega arith)) (below_asym v (item items 1) outside))

no_slopes_up_to : (items : List Ext) (v : Ext) (u : ℕ) → IsBelow v (item items 1) → IsTurn (is_item_up_to items 1 v) (count_from items 1) u → u ≡ 0
no_slopes_up_to items v zero outside turn = refl
no_slopes_up_to items v (suc j) outside turn = absurd (clash outside (not_true (is_below v (item items 1)) (turn.before 0 (omega arith))))

all_slopes_below : (items : List Ext) (v : Ext) (i : ℕ) → 1 ≤ length items / 2 → IsBelow (item items (2 * (length items / 2 - 1) + 1)) v → IsTurn (is_item_below items 1 v) (count_from items 1) i → i ≡ length items / 2
all_slopes_below items v i some outside turn = elim (cases_lt i (length items / 2)) [ inl less ↦ absurd (clash outside (turn.after (length items / 2 - 1) (omega arith) (omega arith))) | inr all ↦ omega (arith, turn.within) ]

all_slopes_up_to : (items : List Ext) (v : Ext) (u : ℕ) → 1 ≤ length items / 2 → IsBelow (item items (2 * (length items / 2 - 1) + 1)) v → IsTurn (is_item_up_to items 1 v) (count_from items 1) u → u ≡ length items / 2
all_slopes_up_to items v u some outside turn = elim (cases_lt u (length items / 2)) [
  | inl less ↦ absurd (clash (not_false (is_below v (item items (2 * (length items / 2 - 1) + 1))) (turn.after (length items / 2 - 1) (omega arith) (omega arith))) (below_asym (item items (2 * (length items / 2 - 1) + 1)) v outside))
  | inr all ↦ omega (arith, turn.within)
]

pub range_by_turns : (items : List Ext) (v : ℤ) (i u : ℕ) → IsCurveList items → IsTurn (is_item_below items 1 (At v)) (count_from items 1) i → IsTurn (is_item_up_to items 1 (At v)) (count_from items 1) u
    → IsRange items v (item items (2 * i)) (item items (2 * u))
range_by_turns items v i u list below up_to =
    record {
      pairs = λ x. (
        λ on. (let pair = pair_of_curve items x v list on in (
          not_above_under (item items (2 * i)) x (pair_over_least items list (At x) (At v) i below pair),
          not_below_over (item items (2 * u)) x (pair_under_most items list (At x) (At v) u up_to pair),
        )),
        λ between. curve_of_pair items x v list (pair_of_range items list (At x) (At v) i u below up_to (under_not_above (item items (2 * i)) x between.0) (over_not_below (item items (2 * u)) x between.1)),
      );
      below = λ outside. (let under = under_span items list v (is_finite (first items)) refl outside in
          let none_below = no_slopes_below items (At v) i under.under below in
          let none_up_to = no_slopes_up_to items (At v) u under.under up_to in
          record { one = rw none_below (first_at items ∙ under.endless); other = rw none_up_to (first_at items ∙ under.endless) });
      above = λ outside. (let over = over_span items list v (is_finite (last items)) refl outside in
          let all_below = all_slopes_below items (At v) i over.some over.over below in
          let all_up_to = all_slopes_up_to items (At v) u over.some over.over up_to in
          record { one = rw all_below (last_is items list ∙ over.endless); other = rw all_up_to (last_is items list ∙ over.endless) });
    }
