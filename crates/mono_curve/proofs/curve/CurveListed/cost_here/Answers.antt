use Rattle.std.proofs.Common.{◌≡◌, ℕ, ◌+◌, ◌*◌, ◌<◌, ◌∙◌, ℤ, List, length, ap, sym, subst, to_z, of_z, to_z-of_z, FitsSigned, arith}
use Rattle.std.specs.Prelude.{◌+ℤ◌}
use Rattle.std.specs.Int.{w64, w128}
use Rattle.theory.specs.declared.ext.Ext.{Ext}
use Rattle.theory.specs.Ends.{whole}
use Rattle.theory.specs.CurveList.{Listing, item}
use Rattle.theory.specs.Limits.{number_most, base_most, IsWithin}
use Rattle.theory.proofs.Bounds.{within_sum, within_fits64, within_fits128}
use Rattle.mono_curve.specs.CurveValue.{CurveValue, IsValidCurve}
use Rattle.mono_curve.specs.PointCosts.{bare, point_cost}
use Rattle.mono_curve.proofs.PieceCosts.{bare-small, cost_with_base}
use Rattle.mono_curve.proofs.curve.CurveListed.cost_here.Goals as goal

added : (l : Listing) (i : ℕ) (kept wide : ℤ) → IsValidCurve l → i < length l.items → kept ≡ point_cost (bare l.items) i → wide ≡ to_z w64 (of_z w64 kept)
    → to_z w128 (of_z w128 (to_z w128 (of_z w128 l.base) +ℤ to_z w128 (of_z w128 wide))) ≡ point_cost l i
added l i kept wide valid inside kept_is wide_is =
    let most = number_most * (2 * number_most) in
    let small : IsWithin most kept = rw kept_is (bare-small l.items (whole (item l.items i)) valid.is_list valid.items_within (valid.items_within i inside)) in
    let kept_fits : FitsSigned w64 kept = within_fits64 most kept small (omega arith) in
    let wide_fits : FitsSigned w128 kept = within_fits128 most kept small (omega arith) in
    let base_fits : FitsSigned w128 l.base = within_fits128 base_most l.base valid.base_within (omega arith) in
    let sum_fits : FitsSigned w128 (l.base +ℤ kept) = within_fits128 (base_most + most) (l.base +ℤ kept) (within_sum base_most most l.base kept valid.base_within small) (omega arith) in
    rw (to_z-of_z base_fits, wide_is, to_z-of_z kept_fits, to_z-of_z wide_fits)
    (to_z-of_z sum_fits ∙ ap (λ (z : ℤ). l.base +ℤ z) kept_is ∙ sym (cost_with_base l (whole (item l.items i))))

pub returns : goal.returns
returns c =
    let inside = c.self.inside in
    let kept_is = subst (λ (items : List Ext). c.cost_at_point.result ≡ point_cost (bare items) c.args.i) c.deref.ensures.value c.cost_at_point.ensures in
    let there = subst (λ (v : CurveValue). c.args.i < length v.listing.items) (sym c.self.view_is) c.requires.inside in
    subst (λ (v : CurveValue). to_z w128 (of_z w128 (to_z w128 (of_z w128 inside.base) +ℤ to_z w128 (of_z w128 c.from.result))) ≡ point_cost v.listing c.args.i) c.self.view_is
    (added (record { items = inside.items.items; base = inside.base }) c.args.i c.cost_at_point.result c.from.result inside.valid there kept_is c.from.ensures)
