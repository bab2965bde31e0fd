-- Where items and base are exact the list is that of a curve.
use Rattle.std.proofs.Common.{◌≡◌, refl, false, ℤ, to_z, of_z, unsigned_abs, arith, sym, ap, ◌∙◌, subst, length, ◌≤◌, List}
use Rattle.std.specs.Int.{w64, w128}
use Rattle.theory.specs.declared.ext.Ext.{Ext}
use Rattle.theory.specs.CurveList.{Listing}
use Rattle.theory.specs.Limits.{number_most, list_most, IsWithin}
use Rattle.mono_curve.specs.CurveValue.{IsValidCurve}
use Rattle.model_text.specs.Rescaled.{rescaled_number, rescaled_items, rescaled_curve, are_inexact, of_costs, of_flows, of_tensions}
use Rattle.model_text.proofs.OptionTests.{told}
use Rattle.model_text.proofs.RescaleLemmas.{number-within, narrowed, widened}
use Rattle.model_text.proofs.RescaledCurve.{rescaled-valid, items-count}
use Rattle.model_text.proofs.rescaling.curve_at.Goals as goal

module _ (c : goal.After-from) where
  abbrev before : Listing
  before = c.args.curve.now.listing

  base-told : (are_inexact (of_costs c.args.from c.args.to) (unsigned_abs before.base) ≡ false)
      × (rescaled_number (of_costs c.args.from c.args.to) before.base ≡ c.in-Some.base)
  base-told =
      let read = ap (λ z. to_z w64 (of_z w64 (to_z w128 (of_z w128 z)))) c.base.ensures ∙ narrowed before.base c.requires.limits.base in
      told _ _ _ (sym (rw (read, c.cost.ensures.is, c.cost-2.ensures.is) at c.number.ensures) ∙ c.in-Some.is)

  curve-is : record { items = c.in_ok-items.items.items; base = to_z w128 (of_z w128 c.from.result) } ≡ rescaled_curve c.args.from c.args.to before
  curve-is =
      let wide : to_z w128 (of_z w128 c.from.result) ≡ rescaled_number (of_costs c.args.from c.args.to) before.base =
      ap (λ z. to_z w128 (of_z w128 z)) c.from.ensures
      ∙ widened c.in-Some.base (subst (IsWithin number_most) base-told.1 (number-within (of_costs c.args.from c.args.to) before.base base-told.0))
      ∙ sym base-told.1 in
      ap (λ (items : List Ext). record { items = items; base = to_z w128 (of_z w128 c.from.result) }) c.in_ok-items.ensures.items
      ∙ ap (λ (base : ℤ). record { items = rescaled_items (of_flows c.args.from c.args.to) (of_tensions c.args.from c.args.to) before.items; base = base }) wide

  valid : IsValidCurve (rescaled_curve c.args.from c.args.to before)
  valid = rescaled-valid c.args.from c.args.to before c.args.curve.now.valid c.requires.limits c.in_ok-items.ensures.exact base-told.0

pub of_tested-requires : goal.of_tested-requires
of_tested-requires c = subst IsValidCurve (sym (curve-is c)) (valid c)

pub returns-clause-curve : goal.returns-clause-curve
returns-clause-curve c = c.of_tested.ensures ∙ curve-is c.before

pub returns-clause-exact : goal.returns-clause-exact
returns-clause-exact c = rw (c.in_ok-items.ensures.exact, (base-told c.before).0) refl

pub returns-clause-short : goal.returns-clause-short
returns-clause-short c =
    let count = items-count (of_flows c.args.from c.args.to) (of_tensions c.args.from c.args.to) c.args.curve.now.listing.items in
    subst (λ (l : Listing). length l.items ≤ list_most) (sym (c.of_tested.ensures ∙ curve-is c.before)) (omega (arith, count, c.requires.limits.short))

pub returns-clause-base : goal.returns-clause-base
returns-clause-base c =
    subst (λ (l : Listing). IsWithin number_most l.base) (sym (c.of_tested.ensures ∙ curve-is c.before))
    (number-within (of_costs c.args.from c.args.to) c.args.curve.now.listing.base (base-told c.before).0)
