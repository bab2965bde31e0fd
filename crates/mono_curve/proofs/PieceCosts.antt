-- The cost along a piece. Two flows on one piece are both on the curve with its slope, so Fenchel's equality gives either cost
-- by the same conjugate cost, and the costs differ by the slope times the way between the flows. An end of a piece lies on it
-- where it is finite. A piece without a finite end is the whole list: then the curve rests at 0, at the cost of the base.
use Rattle.std.proofs.Common.{◌≡◌, ℕ, zero, suc, ◌+◌, ◌*◌, ◌/◌, ◌-◌, ◌^◌, ◌<◌, ◌≤◌, ℤ, pos, true, false, List, [], ◌∷◌, ◌++◌, length, refl, sym, subst, ap, ap₂, ◌∙◌, inl, inr, arith}
use Rattle.std.specs.Prelude.{◌+ℤ◌, ◌-ℤ◌, ◌*ℤ◌, slice_index_or}
use Rattle.std.proofs.lemmas.Bool.{cases_lt}
use Rattle.std.proofs.lemmas.List.{get_or_append_left, get_or_push, length_push}
use Rattle.std.proofs.lemmas.Int.{ints}
use Rattle.theory.specs.declared.ext.Ext.{Ext}
use Rattle.theory.specs.declared.ext.Ext.TheVariants.{MinusInf, At, PlusInf}
use Rattle.theory.specs.Ends.{whole, is_finite, IsFinite, is_below, IsBelow}
use Rattle.theory.specs.Sums.{sum_over}
use Rattle.theory.specs.CurveList.{IsCurveList, Listing, pieces, item, first, last}
use Rattle.theory.specs.Domain.{InDomain, rest_point, clip}
use Rattle.theory.specs.Cost.{rise, cost}
use Rattle.theory.specs.ConjugateCost.{conjugate_cost}
use Rattle.theory.specs.OnCurve.{IsOnCurve}
use Rattle.theory.specs.Limits.{AreWithin, number_most, base_most, flow_most, IsWithin}
use Rattle.theory.proofs.Rings.{rings}
use Rattle.theory.proofs.Ends.{below_asym}
use Rattle.theory.proofs.Places.{first_at, last_at}
use Rattle.theory.proofs.Equality.{equal_on_curve}
use Rattle.theory.proofs.ConjugateCost.{cost-at_rest}
use Rattle.theory.proofs.Bounds.{nothing_within, within_more, cost-within}
use Rattle.mono_curve.specs.Halving.{IsTurn, count_from, is_item_below}
use Rattle.mono_curve.specs.PointCosts.{point_cost, bare, AreKept, IsOnPiece, IsPriced}
use Rattle.mono_curve.proofs.Stairs.{finite_is, same_unless_below}
use Rattle.mono_curve.proofs.PieceSlopes.{slope_pairs, not_below_self}
use Rattle.mono_curve.proofs.ReadOff.{curve_of_pair, slope_finite, least_not_above, most_not_below, first_finite, last_finite, first_not_plus, last_not_minus, last_is, minus_unless_plus, plus_unless_minus, point_below, point_not_below, clash}

-- ---- two flows of one piece

pub on_slope : (items : List Ext) (x : ℤ) (k : ℕ) → IsCurveList items → k < length items / 2 → IsOnPiece items k x → IsOnCurve 1 items x (whole (item items (2 * k + 1)))
on_slope items x k list inside on =
    let is = finite_is (item items (2 * k + 1)) (slope_finite items list k inside) in
    curve_of_pair items x (whole (item items (2 * k + 1))) list (rw is at (slope_pairs items list (At x) k inside on.begun on.not_ended))

pub cost_along : (c : Listing) (x y : ℤ) (k : ℕ) → IsCurveList c.items → k < length c.items / 2 → IsOnPiece c.items k x → IsOnPiece c.items k y
    → cost 1 c y ≡ cost 1 c x +ℤ whole (item c.items (2 * k + 1)) *ℤ (y -ℤ x)
cost_along c x y k list inside on_x on_y =
    let s = whole (item c.items (2 * k + 1)) in
    moved (cost 1 c x) (cost 1 c y) (conjugate_cost 1 c s) s x y
    (equal_on_curve 1 c x s list (on_slope c.items x k list inside on_x))
    (equal_on_curve 1 c y s list (on_slope c.items y k list inside on_y))
  where
    moved : (f g h s x y : ℤ) → pos 1 *ℤ f +ℤ pos 1 *ℤ h ≡ x *ℤ s → pos 1 *ℤ g +ℤ pos 1 *ℤ h ≡ y *ℤ s → g ≡ f +ℤ s *ℤ (y -ℤ x)
    moved f g h s x y e d = omega (arith, rings)

-- ---- the ends of a piece

end_on_itself : (e : Ext) → IsFinite e → is_below (At (whole e)) e ≡ false
end_on_itself e finite = let is = finite_is e finite in rw (← is) (not_below_self e)

itself_on_end : (e : Ext) → IsFinite e → is_below e (At (whole e)) ≡ false
itself_on_end e finite = let is = finite_is e finite in rw (← is) (not_below_self e)

pub left_on_piece : (items : List Ext) (k : ℕ) → IsCurveList items → k < length items / 2 → IsFinite (item items (2 * k)) → IsOnPiece items k (whole (item items (2 * k)))
left_on_piece items k list inside finite =
    let is = finite_is (item items (2 * k)) finite in
    record {
      begun = end_on_itself (item items (2 * k)) finite;
      not_ended = rw (← is) (below_asym (item items (2 * k)) (item items (2 * k + 2)) (list.rises (2 * k) (omega arith)));
    }

pub right_on_piece : (items : List Ext) (k : ℕ) → IsCurveList items → k < length items / 2 → IsFinite (item items (2 * k + 2)) → IsOnPiece items k (whole (item items (2 * k + 2)))
right_on_piece items k list inside finite =
    let is = finite_is (item items (2 * k + 2)) finite in
    record {
      begun = rw (← is) (below_asym (item items (2 * k)) (item items (2 * k + 2)) (list.rises (2 * k) (omega arith)));
      not_ended = itself_on_end (item items (2 * k + 2)) finite;
    }

-- ---- a piece without a finite end

-- it is the only piece
record IsLine (items : List Ext) (k : ℕ) : Type 0 where
  only : k ≡ 0
  whole_list : length items ≡ 3
  begins : item items (2 * k) ≡ MinusInf
  ends : item items (2 * k + 2) ≡ PlusInf

line : (items : List Ext) (k : ℕ) → IsCurveList items → k < length items / 2 → is_finite (item items (2 * k)) ≡ false → is_finite (item items (2 * k + 2)) ≡ false → IsLine items k
line items k list inside endless_left endless_right =
    let at_first : k ≡ 0 = elim (cases_lt 0 k) [
      | inl later ↦ absurd (clash (list.inner_finite (2 * k) (omega arith) (omega arith)) endless_left)
      | inr here ↦ omega arith
    ] in
    let at_last : length items ≡ 3 = elim (cases_lt (2 * k + 3) (length items)) [
      | inl later ↦ absurd (clash (list.inner_finite (2 * k + 2) (omega arith) (omega arith)) endless_right)
      | inr here ↦ omega arith
    ] in
    record {
      only = at_first;
      whole_list = at_last;
      begins = minus_unless_plus (item items (2 * k)) endless_left (first_finite items list k inside);
      ends = plus_unless_minus (item items (2 * k + 2)) endless_right (last_finite items list k inside);
    }

pub zero_on_piece : (items : List Ext) (k : ℕ) → IsCurveList items → k < length items / 2 → is_finite (item items (2 * k)) ≡ false → is_finite (item items (2 * k + 2)) ≡ false → IsOnPiece items k (pos 0)
zero_on_piece items k list inside endless_left endless_right =
    let l = line items k list inside endless_left endless_right in
    record { begun = rw l.begins refl; not_ended = rw l.ends refl }

pub cost_at_zero : (c : Listing) (k : ℕ) → IsCurveList c.items → k < length c.items / 2 → is_finite (item c.items (2 * k)) ≡ false → is_finite (item c.items (2 * k + 2)) ≡ false → cost 1 c (pos 0) ≡ c.base
cost_at_zero c k list inside endless_left endless_right =
    let l = line c.items k list inside endless_left endless_right in
    let start : 0 ≡ 2 * k = omega (arith, l.only) in
    let front : first c.items ≡ MinusInf = sym (first_at c.items) ∙ ap (item c.items) start ∙ l.begins in
    let back : last c.items ≡ PlusInf = sym (last_at c.items (2 * k + 2) (omega (arith, l.only, l.whole_list))) ∙ l.ends in
    let rests : rest_point c.items ≡ pos 0 = ap₂ (λ low high. clip 1 low high (pos 0)) front back in
    ap (cost 1 c) (sym rests) ∙ cost-at_rest c

-- ---- which piece holds a flow

last_not_past : (items : List Ext) (x : ℤ) → IsCurveList items → InDomain 1 items x → is_below (item items (2 * (length items / 2))) (At x) ≡ false
last_not_past items x list inside = most_not_below (item items (2 * (length items / 2))) x (last_not_minus items list) (rw (last_is items list) inside.most)

first_not_before : (items : List Ext) (x : ℤ) → IsCurveList items → InDomain 1 items x → is_below (At x) (item items 0) ≡ false
first_not_before items x list inside = least_not_above (item items 0) x (first_not_plus items list) (rw (first_at items) inside.least)

-- no more points are below it than there are pieces
pub pieces_below : (items : List Ext) (x : ℤ) (k : ℕ) → IsCurveList items → InDomain 1 items x → IsTurn (is_item_below items 0 (At x)) (count_from items 0) k → k ≤ length items / 2
pieces_below items x k list inside turn = elim (cases_lt (length items / 2) k) [
  | inl past ↦ absurd (clash (point_below items (At x) k turn (length items / 2) past) (last_not_past items x list inside))
  | inr fits ↦ fits
]

pub piece_of_flow : (items : List Ext) (x : ℤ) (k : ℕ) → IsCurveList items → InDomain 1 items x → IsTurn (is_item_below items 0 (At x)) (count_from items 0) k → 0 < k → IsOnPiece items (k - 1) x
piece_of_flow items x k list inside turn some =
    let fits = pieces_below items x k list inside turn in
    let next : 2 * (k - 1) + 2 ≡ 2 * k = omega arith in
    record {
      begun = below_asym (item items (2 * (k - 1))) (At x) (point_below items (At x) k turn (k - 1) (omega arith));
      not_ended = rw next (point_not_below items (At x) k list turn k (omega arith) fits);
    }

-- with none below, the flow is the first point
pub first_is_flow : (items : List Ext) (x : ℤ) → IsCurveList items → InDomain 1 items x → IsTurn (is_item_below items 0 (At x)) (count_from items 0) 0 → item items 0 ≡ At x
first_is_flow items x list inside turn =
    same_unless_below (item items 0) (At x) (point_not_below items (At x) 0 list turn 0 (omega arith) (omega arith)) (first_not_before items x list inside)

-- ---- how large costs are

pub cost-small : (c : Listing) (x : ℤ) → IsCurveList c.items → AreWithin number_most c.items → IsWithin (2 * base_most) c.base → IsWithin (2 * flow_most) x → IsWithin (10 ^ 28) (cost 1 c x)
cost-small c x list within low inside =
    within_more (2 * base_most + number_most * (2 * flow_most + 2 * flow_most)) (10 ^ 28) (cost 1 c x) (omega arith)
    (cost-within (2 * base_most) number_most (2 * flow_most) c.items c.base x list (omega arith) within low inside)

-- a point as a flow, and the cost there
pub point-small : (items : List Ext) (i : ℕ) → AreWithin number_most items → i < length items → IsWithin (2 * flow_most) (whole (item items i))
point-small items i within inside = within_more number_most (2 * flow_most) (whole (item items i)) (omega arith) (within i inside)

pub point_cost-small : (c : Listing) (i : ℕ) → IsCurveList c.items → AreWithin number_most c.items → IsWithin (2 * base_most) c.base → i < length c.items → IsWithin (10 ^ 28) (point_cost c i)
point_cost-small c i list within low inside = cost-small c (whole (item c.items i)) list within low (point-small c.items i within inside)

-- without the base
pub bare-small : (items : List Ext) (x : ℤ) → IsCurveList items → AreWithin number_most items → IsWithin number_most x → IsWithin (number_most * (2 * number_most)) (cost 1 (bare items) x)
bare-small items x list within inside =
    within_more (0 + number_most * (number_most + number_most)) (number_most * (2 * number_most)) (cost 1 (bare items) x) (omega arith)
    (cost-within 0 number_most number_most items (pos 0) x list (omega arith) within (nothing_within 0) inside)

pub cost_with_base : (c : Listing) (x : ℤ) → cost 1 c x ≡ c.base +ℤ cost 1 (bare c.items) x
cost_with_base c x = added c.base (sum_over (rise 1 (pos 1 *ℤ rest_point c.items) x) (pieces c.items))
  where
    added : (b s : ℤ) → pos 1 *ℤ b +ℤ s ≡ b +ℤ (pos 1 *ℤ pos 0 +ℤ s)
    added b s = omega (arith, ints)

-- ---- the costs from point to point

-- from a flow of the piece to its right end
pub end_price : (items : List Ext) (k : ℕ) (flow price : ℤ) → IsCurveList items → k < length items / 2 → IsPriced items k flow price → IsFinite (item items (2 * k + 2))
    → price +ℤ whole (item items (2 * k + 1)) *ℤ (whole (item items (2 * k + 2)) -ℤ flow) ≡ point_cost (bare items) (2 * k + 2)
end_price items k flow price list inside here finite =
    let along = cost_along (bare items) flow (whole (item items (2 * k + 2))) k list inside (here.on_piece inside) (right_on_piece items k list inside finite) in
    rw here.is_price (sym along)

-- the right end begins the next piece
pub end_priced : (items : List Ext) (k : ℕ) (price : ℤ) → IsCurveList items → IsFinite (item items (2 * k + 2)) → price ≡ point_cost (bare items) (2 * k + 2)
    → IsPriced items (k + 1) (whole (item items (2 * k + 2))) price
end_priced items k price list finite is =
    let place : 2 * (k + 1) ≡ 2 * k + 2 = omega arith in
    record {
      on_piece = λ more. rw place at (left_on_piece items (k + 1) list more (rw place finite));
      is_price = is;
    }

-- a price is that of its point, where the point is finite
pub price_at : (items : List Ext) (i : ℕ) (flow price : ℤ) → price ≡ cost 1 (bare items) flow → (IsFinite (item items i) → flow ≡ whole (item items i)) → IsFinite (item items i)
    → price ≡ point_cost (bare items) i
price_at items i flow price is_price at_point finite = is_price ∙ ap (cost 1 (bare items)) (at_point finite)

pub first_kept : (items : List Ext) (price : ℤ) → (IsFinite (item items 0) → price ≡ point_cost (bare items) 0) → AreKept items (price ∷ [])
first_kept items price is zero inside finite = is finite
first_kept items price is (suc j) inside finite = absurd (omega arith)

pub kept_more : (items : List Ext) (costs : List ℤ) (price : ℤ) (k : ℕ) → AreKept items costs → length costs ≡ k → (IsFinite (item items (2 * k)) → price ≡ point_cost (bare items) (2 * k))
    → AreKept items (costs ++ price ∷ [])
kept_more items costs price k kept counted is j inside finite = elim (cases_lt j k) [
  | inl before ↦ get_or_append_left costs (price ∷ []) (pos 0) j (omega arith) ∙ kept j (omega arith) finite
  | inr here ↦ (let same : j ≡ k = omega (arith, length_push costs price) in
      subst (λ (m : ℕ). slice_index_or (costs ++ price ∷ []) m (pos 0) ≡ point_cost (bare items) (2 * m)) (sym same)
      (get_or_push costs price (pos 0) k counted ∙ is (subst (λ (m : ℕ). IsFinite (item items (2 * m))) same finite)))
]

-- the costs at the points up to k, and a flow at the next piece
pub record IsCosted (items : List Ext) (k : ℕ) (flow price : ℤ) (costs : List ℤ) : Type 0 where
  pub kept : AreKept items costs
  pub counted : length costs ≡ k + 1
  pub priced : IsPriced items k flow price
  pub flow_within : IsWithin number_most flow
