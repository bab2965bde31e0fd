use Rattle.std.proofs.Common.{◌≡◌, ℕ, ◌+◌, ◌*◌, ◌/◌, ◌<◌, ◌∙◌, ℤ, List, length, sym, to_z, of_z, to_z-of_z, FitsSigned, arith, rules}
use Rattle.std.specs.Prelude.{◌+ℤ◌, ◌-ℤ◌, ◌*ℤ◌}
use Rattle.std.specs.Int.{w64, w128}
use Rattle.theory.specs.declared.ext.Ext.{Ext}
use Rattle.theory.specs.Ends.{whole, IsFinite}
use Rattle.theory.specs.CurveList.{IsCurveList, item}
use Rattle.theory.specs.Limits.{AreWithin, number_most, IsWithin}
use Rattle.theory.proofs.Bounds.{within_fits64}
use Rattle.mono_curve.specs.PointCosts.{bare, point_cost, IsPriced}
use Rattle.mono_curve.proofs.PieceCosts.{bare-small, end_price, end_priced}
use Rattle.mono_curve.proofs.kept.end_of_piece.Goals as goal

moved : (items : List Ext) (k : ℕ) (flow price old slope end result : ℤ) → IsCurveList items → AreWithin number_most items → k < length items / 2 → IsPriced items k flow price → IsWithin number_most flow
    → IsFinite (item items (2 * k + 2)) → FitsSigned w128 old → FitsSigned w64 slope → FitsSigned w64 end
    → old ≡ to_z w64 (of_z w64 price) → slope ≡ whole (item items (2 * k + 1)) → end ≡ whole (item items (2 * k + 2))
    → result ≡ to_z w128 (of_z w128 old) +ℤ to_z w64 (of_z w64 slope) *ℤ (to_z w64 (of_z w64 end) -ℤ to_z w64 (of_z w64 flow))
    → result ≡ point_cost (bare items) (2 * k + 2)
moved items k flow price old slope end result list within inside here small finite old_fits slope_fits end_fits old_is slope_is end_is result_is =
    let flow_fits : FitsSigned w64 flow = within_fits64 number_most flow small (omega arith) in
    let price_fits : FitsSigned w64 price = rw here.is_price (within_fits64 (number_most * (2 * number_most)) _ (bare-small items flow list within small) (omega arith)) in
    let known = rw (to_z-of_z price_fits) at old_is in
    let by_parts = rw (to_z-of_z old_fits, to_z-of_z slope_fits, to_z-of_z end_fits, to_z-of_z flow_fits, known, slope_is, end_is) at result_is in
    by_parts ∙ end_price items k flow price list inside here finite

pub narrowed-requires : goal.narrowed-requires
narrowed-requires c =
    let items = c.args.items.now in
    let fits : FitsSigned w128 c.along-price.result = search rules in
    let old_fits : FitsSigned w128 c.from.result = search rules in
    let slope_fits : FitsSigned w64 c.whole_of-slope.result = search rules in
    let end_fits : FitsSigned w64 c.whole_of-flow.result = search rules in
    let finite : IsFinite (item items (2 * c.args.k + 2)) = sym c.is_finite_end.ensures ∙ c.if-not-is_finite_end.false in
    let is = moved items c.args.k c.args.here.flow c.args.here.price c.from.result c.whole_of-slope.result c.whole_of-flow.result c.along-price.result c.requires.list c.requires.within c.requires.piece c.requires.priced c.requires.flow_within
    finite old_fits slope_fits end_fits c.from.ensures c.whole_of-slope.ensures c.whole_of-flow.ensures c.along-price.ensures in
    rw (to_z-of_z fits, is) (bare-small items (whole (item items (2 * c.args.k + 2))) c.requires.list c.requires.within (c.requires.within (2 * c.args.k + 2) (let list = c.requires.list in omega (arith, list.odd))))

pub returns-clause-priced : goal.returns-clause-priced
returns-clause-priced c =
    let items = c.args.items.now in
    let fits : FitsSigned w128 c.along-price.result = search rules in
    let narrowed_fits : FitsSigned w64 c.narrowed.result = search rules in
    let old_fits : FitsSigned w128 c.from.result = search rules in
    let slope_fits : FitsSigned w64 c.whole_of-slope.result = search rules in
    let end_fits : FitsSigned w64 c.whole_of-flow.result = search rules in
    let finite : IsFinite (item items (2 * c.args.k + 2)) = sym c.is_finite_end.ensures ∙ c.if-not-is_finite_end.false in
    let is = moved items c.args.k c.args.here.flow c.args.here.price c.from.result c.whole_of-slope.result c.whole_of-flow.result c.along-price.result c.requires.list c.requires.within c.requires.piece c.requires.priced c.requires.flow_within
    finite old_fits slope_fits end_fits c.from.ensures c.whole_of-slope.ensures c.whole_of-flow.ensures c.along-price.ensures in
    let same = rw (to_z-of_z fits) at c.narrowed.ensures in
    rw (to_z-of_z end_fits, to_z-of_z narrowed_fits, c.whole_of-flow.ensures) (end_priced items c.args.k c.narrowed.result c.requires.list finite (same ∙ is))

pub returns-clause-flow_within : goal.returns-clause-flow_within
returns-clause-flow_within c =
    let end_fits : FitsSigned w64 c.whole_of-flow.result = search rules in
    rw (to_z-of_z end_fits, c.whole_of-flow.ensures) (c.requires.within (2 * c.args.k + 2) (let list = c.requires.list in omega (arith, list.odd)))

pub returns-clause-at_point : goal.returns-clause-at_point
returns-clause-at_point c = λ _. (
    let end_fits : FitsSigned w64 c.whole_of-flow.result = search rules in
    let place : 2 * (c.args.k + 1) ≡ 2 * c.args.k + 2 = omega arith in
    rw place (to_z-of_z end_fits ∙ c.whole_of-flow.ensures))
