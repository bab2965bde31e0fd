-- The next flow at a price. At a flow x the tension h is on the curve and h + 1 isn't, so some piece that ends above x has the
-- slope h. Points are whole, so x + 1 is still on that piece: its end isn't below x + 1, and no later piece begins below it. So
-- x + 1 and h are a pair. Going down, the same on the reversed curve. Where every greater tension is on the curve with x no
-- piece ends above x, so x is the last point.
use Rattle.std.proofs.Common.{◌≡◌, ℤ, pos, ◌+ℤ◌, ◌-ℤ◌, ◌*ℤ◌, neg_ℤ, ◌≤ℤ◌, true, false, List, [], ◌∷◌, refl, sym, ap, ◌∙◌, subst, arith}
use Rattle.std.proofs.lemmas.Int.{ints, by_lt_z}
use Rattle.theory.specs.declared.ext.Ext.{Ext}
use Rattle.theory.specs.declared.ext.Ext.TheVariants.{MinusInf, At, PlusInf}
use Rattle.theory.specs.Sums.{Each}
use Rattle.theory.specs.Ends.{IsBelow, IsAtLeast, IsAtMost, IsPast, IsBefore, negated}
use Rattle.theory.specs.CurveList.{IsCurveList, pieces, first, last}
use Rattle.theory.specs.OnCurve.{FitsPiece, IsOnCurve}
use Rattle.theory.specs.Views.{reversed_items}
use Rattle.theory.proofs.Ends.{nothing_below, negated-negated}
use Rattle.theory.proofs.Shape.{Rest, ends, goes_on, Shape, single, long, shape_by_place}
use Rattle.theory.proofs.Pairs.{later_fits, most_last}
use Rattle.theory.proofs.ReversedList.{reversed-is_list}
use Rattle.theory.proofs.ReversedPairs.{reversed-pair, pair_from_reversed, last-reversed}

-- with a flow and a tension, the next flow is on the pieces too, or the next tension
data Next (x h : ℤ) (list : List Ext) : Type 0 where
  flow : IsAtMost 1 (last list) (x +ℤ pos 1) → Each (FitsPiece 1 (x +ℤ pos 1) h) (pieces list) → Next x h list
  tension : Each (FitsPiece 1 x (h +ℤ pos 1)) (pieces list) → Next x h list

past_below : (l : Ext) (b x : ℤ) → IsBelow l (At b) → b ≤ℤ x → IsPast 1 l x
past_below MinusInf b x below most = tt
past_below (At a) b x below most = omega (arith, ints)
past_below PlusInf b x below most = let h : false ≡ true = below in cc

inside : (x h : ℤ) (l m : Ext) (s : ℤ) (rest : List Ext) → Rest s m rest → IsBefore 1 m x → IsAtMost 1 m x → IsAtMost 1 m (x +ℤ pos 1)
    → FitsPiece 1 x h (record { left = l; slope = s; right = m }) → Next x h (l ∷ At s ∷ m ∷ rest)
inside x h l m s rest more before here next fits =
    let flat = fits.ends_above before in
    by_lt_z h s
    (λ less. tension (
      record { begins_below = λ past. (let steep = fits.begins_below past in absurd (omega (arith, ints))); ends_above = λ _. omega (arith, ints) },
      later_fits 1 x (h +ℤ pos 1) more here (omega (arith, ints)),
    ))
    (λ same. flow (most_last 1 (x +ℤ pos 1) more next) (
      record { begins_below = λ _. omega (arith, ints); ends_above = λ _. omega (arith, ints) },
      later_fits 1 (x +ℤ pos 1) h more next (omega (arith, ints)),
    ))

next : (x h : ℤ) (l : Ext) {s : ℤ} {m : Ext} {rest : List Ext} → IsBelow l m → Rest s m rest → IsAtMost 1 (last (m ∷ rest)) x
    → Each (FitsPiece 1 x h) (pieces (l ∷ At s ∷ m ∷ rest)) → Next x h (l ∷ At s ∷ m ∷ rest)
next x h l {m = MinusInf} below more most each = absurd (nothing_below l below)
next x h l {s = s} {m = PlusInf} {rest = rest} below more most each = inside x h l PlusInf s rest more tt tt tt each.0
next x h l {s = s} {m = At b} below ends most each =
    by_lt_z x b
    (λ before. inside x h l (At b) s [] ends (omega (arith, ints)) (omega (arith, ints)) (omega (arith, ints)) each.0)
    (λ after.
    let steep = each.0.begins_below (past_below l b x below after) in
    tension (record { begins_below = λ _. omega (arith, ints); ends_above = λ before. absurd (omega (arith, ints)) }, tt))
next x h l {s = s} {m = At b} below (goes_on {t = t} {r = r} {rest = rest} rises above more) most each =
    by_lt_z x b
    (λ before.
    inside x h l (At b) s (At t ∷ r ∷ rest) (goes_on rises above more) (omega (arith, ints)) (omega (arith, ints)) (omega (arith, ints)) each.0)
    (λ after.
    let steep = each.0.begins_below (past_below l b x below after) in
    behind steep after (next x h (At b) above more most each.1))
  where
    behind : (pos 1 *ℤ s) ≤ℤ h → b ≤ℤ x → Next x h (At b ∷ At t ∷ r ∷ rest) → Next x h (l ∷ At s ∷ At b ∷ At t ∷ r ∷ rest)
    behind steep after (flow most' each') =
        flow most' (record { begins_below = λ _. steep; ends_above = λ before. absurd (omega (arith, ints)) }, each')
    behind steep after (tension each') =
        tension (record { begins_below = λ _. omega (arith, ints); ends_above = λ before. absurd (omega (arith, ints)) }, each')

least_more : (e : Ext) (x : ℤ) → IsAtLeast 1 e x → IsAtLeast 1 e (x +ℤ pos 1)
least_more MinusInf x h = tt
least_more (At a) x h = omega (arith, ints)
least_more PlusInf x h = tt

next_in : (items : List Ext) (x h : ℤ) → IsOnCurve 1 items x h → ¬ (IsOnCurve 1 items x (h +ℤ pos 1)) → Next x h items
    → IsOnCurve 1 items (x +ℤ pos 1) h
next_in items x h on top (flow most each) =
    record { in_domain = record { least = least_more (first items) x on.in_domain.least; most = most }; on_pieces = each }
next_in items x h on top (tension each) = absurd (top (record { in_domain = on.in_domain; on_pieces = each }))

next_for : {items : List Ext} (x h : ℤ) → Shape items → IsOnCurve 1 items x h → Next x h items
next_for x h single on = tension tt
next_for x h (long {l = l} below more) on = next x h l below more on.in_domain.most on.on_pieces

-- at the greatest tension of a flow the next flow is on the curve
pub next_flow : (items : List Ext) (x h : ℤ) → IsCurveList items → IsOnCurve 1 items x h → ¬ (IsOnCurve 1 items x (h +ℤ pos 1))
    → IsOnCurve 1 items (x +ℤ pos 1) h
next_flow items x h list on top = next_in items x h on top (next_for x h (shape_by_place items list) on)

-- ---- by the reversed curve

pub pair-same : (items : List Ext) (x y v w : ℤ) → IsOnCurve 1 items x v → x ≡ y → v ≡ w → IsOnCurve 1 items y w
pair-same items x y v w on flows tensions = subst (λ (z : ℤ). IsOnCurve 1 items z w) flows (subst (λ (t : ℤ). IsOnCurve 1 items x t) tensions on)

-- at the least tension of a flow the flow before it is on the curve
pub flow_before : (items : List Ext) (x l : ℤ) → IsCurveList items → IsOnCurve 1 items x l → ¬ (IsOnCurve 1 items x (l -ℤ pos 1))
    → IsOnCurve 1 items (x -ℤ pos 1) l
flow_before items x l list on bottom =
    let turned = next_flow (reversed_items items) (neg_ℤ x) (neg_ℤ l) (reversed-is_list items list)
    (reversed-pair 1 items x l list on)
    (λ over. bottom (pair-same items (neg_ℤ (neg_ℤ x)) x (neg_ℤ (neg_ℤ l +ℤ pos 1)) (l -ℤ pos 1)
    (pair_from_reversed items (neg_ℤ x) (neg_ℤ l +ℤ pos 1) list over) (omega (arith, ints)) (omega (arith, ints)))) in
    pair-same items (neg_ℤ (neg_ℤ x +ℤ pos 1)) (x -ℤ pos 1) (neg_ℤ (neg_ℤ l)) l
    (pair_from_reversed items (neg_ℤ x +ℤ pos 1) (neg_ℤ l) list turned) (omega (arith, ints)) (omega (arith, ints))

-- ---- the last and the first point

last_from : (x v : ℤ) (l : Ext) {s : ℤ} {m : Ext} {rest : List Ext} → IsBelow l m → Rest s m rest → IsAtMost 1 (last (m ∷ rest)) x
    → ((w : ℤ) → v ≤ℤ w → Each (FitsPiece 1 x w) (pieces (l ∷ At s ∷ m ∷ rest))) → last (m ∷ rest) ≡ At x
last_from x v l {m = MinusInf} below more most all = absurd (nothing_below l below)
last_from x v l {s = s} {m = PlusInf} below ends most all =
    by_lt_z v s
    (λ less. let flat = (all (s +ℤ pos 1) (omega (arith, ints))).0.ends_above tt in absurd (omega (arith, ints)))
    (λ over. let flat = (all (v +ℤ pos 1) (omega (arith, ints))).0.ends_above tt in absurd (omega (arith, ints)))
last_from x v l {s = s} {m = At b} below ends most all =
    by_lt_z x b
    (λ before.
    by_lt_z v s
    (λ less. let flat = (all (s +ℤ pos 1) (omega (arith, ints))).0.ends_above (omega (arith, ints)) in absurd (omega (arith, ints)))
    (λ over. let flat = (all (v +ℤ pos 1) (omega (arith, ints))).0.ends_above (omega (arith, ints)) in absurd (omega (arith, ints))))
    (λ after. ap At (omega (arith, ints)))
last_from x v l {m = At b} below (goes_on rises above more) most all = last_from x v (At b) above more most (λ w h. (all w h).1)

last_for : {items : List Ext} (x v : ℤ) → Shape items → ((w : ℤ) → v ≤ℤ w → IsOnCurve 1 items x w) → last items ≡ At x
last_for x v (single {p = p}) all = let inside = (all v (omega (arith, ints))).in_domain in ap At (omega (arith, ints))
last_for x v (long {l = l} below more) all =
    last_from x v l below more (all v (omega (arith, ints))).in_domain.most (λ w h. (all w h).on_pieces)

-- a flow that every greater tension is on the curve with is the last point
pub at_last : (items : List Ext) (x v : ℤ) → IsCurveList items → ((w : ℤ) → v ≤ℤ w → IsOnCurve 1 items x w) → last items ≡ At x
at_last items x v list all = last_for x v (shape_by_place items list) all

-- and one that every lesser tension is on the curve with is the first point
pub at_first : (items : List Ext) (x v : ℤ) → IsCurveList items → ((w : ℤ) → w ≤ℤ v → IsOnCurve 1 items x w) → first items ≡ At x
at_first items x v list all =
    let turned = at_last (reversed_items items) (neg_ℤ x) (neg_ℤ v) (reversed-is_list items list)
    (λ w h.
    pair-same (reversed_items items) (neg_ℤ x) (neg_ℤ x) (neg_ℤ (neg_ℤ w)) w
    (reversed-pair 1 items x (neg_ℤ w) list (all (neg_ℤ w) (omega (arith, ints)))) refl (omega (arith, ints))) in
    sym (negated-negated (first items)) ∙ ap negated (sym (last-reversed items list) ∙ turned) ∙ ap At (omega (arith, ints))
