use Rattle.std.proofs.Common.{◌≡◌, ℕ, ◌+◌, ◌*◌, ◌<◌, ◌/◌, ◌∙◌, ℤ, pos, false, List, length, ap, sym, subst, to_z-of_z, FitsSigned, arith, rules}
use Rattle.std.specs.Prelude.{neg_ℤ, ◌-ℤ◌}
use Rattle.std.specs.Int.{w64, w128}
use Rattle.std.proofs.lemmas.Int.{ints}
use Rattle.theory.specs.declared.ext.Ext.{Ext}
use Rattle.theory.specs.Ends.{is_finite, IsFinite}
use Rattle.theory.specs.CurveList.{IsCurveList, item, first}
use Rattle.theory.specs.Views.{conjugate_items}
use Rattle.theory.specs.Limits.{base_most}
use Rattle.theory.proofs.Places.{first_at}
use Rattle.theory.proofs.Bounds.{nothing_within, within_difference, within_fits128}
use Rattle.mono_curve.specs.PointCosts.{IsFinitePoint}
use Rattle.mono_curve.proofs.PieceCosts.{point-small, point_cost-small}
use Rattle.curve_views.specs.Turned.{slope_number, end_to_look_at}
use Rattle.curve_views.proofs.TurnedCosts.{IsSlope, slope_of_point, IsEnd, end_is, price_by_end, price_by_base}
use Rattle.curve_views.proofs.turned.turned_cost.Goals as goal

same_first : (items : List Ext) (f : Ext) → f ≡ item items 0 → is_finite (first items) ≡ is_finite f
same_first items f is = ap (λ (e : Ext). is_finite e) (sym (is ∙ first_at items))

slope_here : (items : List Ext) (f : Ext) (i k : ℕ) → IsCurveList items → f ≡ item items 0 → k ≡ slope_number (is_finite f) i → IsFinitePoint (conjugate_items items) i → IsSlope items i k
slope_here items f i k list is k_is point = subst (λ (n : ℕ). IsSlope items i n) (sym k_is) (slope_of_point items i (is_finite f) list (same_first items f is) point)

end_here : (items : List Ext) (f : Ext) (k place : ℕ) → IsCurveList items → k < length items / 2 → f ≡ item items 0 → place ≡ end_to_look_at (is_finite f) k → IsEnd items k place
end_here items f k place list inside is place_is = subst (λ (n : ℕ). IsEnd items k n) (sym place_is) (end_is items k (is_finite f) list inside (same_first items f is))

pub look-requires : goal.look-requires
look-requires g c =
    let slope = slope_here (g.C.Looked.listing c.args.curve.now).items c.look-first.result c.args.i c.number_of_slope-k.result (g.met.C.Looked.is_list c.args.curve.now) c.look-first.ensures.item c.number_of_slope-k.ensures c.requires in
    omega (arith, slope.there)

pub end_of_slope-at-requires : goal.end_of_slope-at-requires
end_of_slope-at-requires g c =
    let slope = slope_here (g.C.Looked.listing c.args.curve.now).items c.look-first.result c.args.i c.number_of_slope-k.result (g.met.C.Looked.is_list c.args.curve.now) c.look-first.ensures.item c.number_of_slope-k.ensures c.requires in
    omega (arith, slope.there, g.met.C.Looked.is_short c.args.curve.now)

pub look-end-requires : goal.look-end-requires
look-end-requires g c =
    let items = (g.C.Looked.listing c.args.curve.now).items in
    let list = g.met.C.Looked.is_list c.args.curve.now in
    let slope = slope_here items c.look-first.result c.args.i c.number_of_slope-k.result list c.look-first.ensures.item c.number_of_slope-k.ensures c.requires in
    (end_here items c.look-first.result c.number_of_slope-k.result c.end_of_slope-at.result list slope.there c.look-first.ensures.item c.end_of_slope-at.ensures).inside

pub gain-requires-clause-flow : goal.gain-requires-clause-flow
gain-requires-clause-flow g c =
    let items = (g.C.Looked.listing c.args.curve.now).items in
    let list = g.met.C.Looked.is_list c.args.curve.now in
    let slope = slope_here items c.look-first.result c.args.i c.number_of_slope-k.result list c.look-first.ensures.item c.number_of_slope-k.ensures c.requires in
    let end = end_here items c.look-first.result c.number_of_slope-k.result c.end_of_slope-at.result list slope.there c.look-first.ensures.item c.end_of_slope-at.ensures in
    let fits : FitsSigned w64 c.whole_of.result = search rules in
    rw (to_z-of_z fits, c.whole_of.ensures, c.look-end.ensures.item) (g.met.C.Looked.items_within c.args.curve.now c.end_of_slope-at.result end.inside)

pub gain-requires-clause-tension : goal.gain-requires-clause-tension
gain-requires-clause-tension g c =
    let items = (g.C.Looked.listing c.args.curve.now).items in
    let slope = slope_here items c.look-first.result c.args.i c.number_of_slope-k.result (g.met.C.Looked.is_list c.args.curve.now) c.look-first.ensures.item c.number_of_slope-k.ensures c.requires in
    let fits : FitsSigned w64 c.whole_of-slope.result = search rules in
    rw (to_z-of_z fits, c.whole_of-slope.ensures, c.look.ensures.item) (point-small items (2 * c.number_of_slope-k.result + 1) (g.met.C.Looked.items_within c.args.curve.now) (omega (arith, slope.there)))

pub gain-requires-clause-cost : goal.gain-requires-clause-cost
gain-requires-clause-cost g c =
    let l = g.C.Looked.listing c.args.curve.now in
    let list = g.met.C.Looked.is_list c.args.curve.now in
    let slope = slope_here l.items c.look-first.result c.args.i c.number_of_slope-k.result list c.look-first.ensures.item c.number_of_slope-k.ensures c.requires in
    let end = end_here l.items c.look-first.result c.number_of_slope-k.result c.end_of_slope-at.result list slope.there c.look-first.ensures.item c.end_of_slope-at.ensures in
    let fits : FitsSigned w128 c.anchor.result = search rules in
    rw (to_z-of_z fits, c.anchor.ensures.cost) (point_cost-small l c.end_of_slope-at.result list (g.met.C.Looked.items_within c.args.curve.now) (g.met.C.Looked.base_within c.args.curve.now) end.inside)

pub returns-then-is_finite_end-clause-cost : goal.returns-then-is_finite_end-clause-cost
returns-then-is_finite_end-clause-cost g c =
    let l = g.C.Looked.listing c.args.curve.now in
    let list = g.met.C.Looked.is_list c.args.curve.now in
    let slope = slope_here l.items c.look-first.result c.args.i c.number_of_slope-k.result list c.look-first.ensures.item c.number_of_slope-k.ensures c.requires in
    let end = end_here l.items c.look-first.result c.number_of_slope-k.result c.end_of_slope-at.result list slope.there c.look-first.ensures.item c.end_of_slope-at.ensures in
    let finite : IsFinite (item l.items c.end_of_slope-at.result) = rw c.look-end.ensures.item at (sym c.is_finite_end.ensures ∙ c.if-is_finite_end.true) in
    let fits : FitsSigned w128 c.gain.result = search rules in
    let flow_fits : FitsSigned w64 c.whole_of.result = search rules in
    let slope_fits : FitsSigned w64 c.whole_of-slope.result = search rules in
    let anchor_fits : FitsSigned w128 c.anchor.result = search rules in
    let gained = rw (to_z-of_z flow_fits, to_z-of_z slope_fits, to_z-of_z anchor_fits, c.whole_of.ensures, c.look-end.ensures.item, c.whole_of-slope.ensures, c.look.ensures.item, c.anchor.ensures.cost) at c.gain.ensures.value in
    to_z-of_z fits ∙ gained ∙ price_by_end l c.args.i c.number_of_slope-k.result c.end_of_slope-at.result list slope end finite

pub returns-clause-cost : goal.returns-clause-cost
returns-clause-cost g c =
    let l = g.C.Looked.listing c.args.curve.now in
    let list = g.met.C.Looked.is_list c.args.curve.now in
    let slope = slope_here l.items c.look-first.result c.args.i c.number_of_slope-k.result list c.look-first.ensures.item c.number_of_slope-k.ensures c.requires in
    let end = end_here l.items c.look-first.result c.number_of_slope-k.result c.end_of_slope-at.result list slope.there c.look-first.ensures.item c.end_of_slope-at.ensures in
    let infinite : is_finite (item l.items c.end_of_slope-at.result) ≡ false = rw c.look-end.ensures.item at (sym c.is_finite_end.ensures ∙ c.if-is_finite_end.false) in
    let base_fits : FitsSigned w128 c.base.result = search rules in
    let small = within_difference 0 (2 * base_most) (pos 0) l.base (nothing_within 0) (g.met.C.Looked.base_within c.args.curve.now) in
    let negated_fits : FitsSigned w128 (pos 0 -ℤ l.base) = within_fits128 (0 + 2 * base_most) (pos 0 -ℤ l.base) small (omega arith) in
    rw (to_z-of_z base_fits, c.base.ensures) (to_z-of_z negated_fits ∙ negated l.base ∙ price_by_base l c.args.i c.number_of_slope-k.result c.end_of_slope-at.result list slope end infinite)
  where
    negated : (b : ℤ) → pos 0 -ℤ b ≡ neg_ℤ b
    negated b = omega (arith, ints)
