use Rattle.std.proofs.Common.{◌≡◌, ◌≢◌, inr, sym, ap, ◌∙◌, rules, SFits, to_z-of_z, of_z}
use mir.Syntax.{w128}
use Rattle.theory.specs.Network.{«at», curve}
use Rattle.theory.specs.Conserved.{tension}
use Rattle.theory.proofs.Shape.{shape_by_place}
use Rattle.theory.proofs.Equality.{in_span}
use Rattle.cert_check.proofs.kinds.judge_pair.Goals as goal

-- a tension on its curve is in the span
pub total_value-right-requires-clause-inside : goal.total_value-right-requires-clause-inside
total_value-right-requires-clause-inside c =
    let net = c.args.g.now.network in
    λ j there. in_span 1 («at» c.args.x.now j) (tension net («at» c.args.u.now) j)
    (shape_by_place (curve net j).items (c.args.g.now.good.is_network.curve_lists j there))
    (c.in_default-first_off_curve.ensures.none j there)

pub returns-then-value-right : goal.returns-then-value-right
returns-then-value-right c =
    let cost_is : c.args.cost ≡ c.total_cost-right.result = search rules in
    let wrong : c.args.value ≢ c.total_value-right.result = λ e. c.if-value-right.true (ap (of_z w128) e) in
    let stated_fits : SFits w128 c.args.value = search rules in
    let right_fits : SFits w128 c.total_value-right.result = search rules in (
      record { conserved = c.in_default.ensures.none; on_curves = c.in_default-first_off_curve.ensures.none },
      inr (
        cost_is ∙ c.total_cost-right.ensures.value,
        record {
          wrong = λ e. wrong (e ∙ sym c.total_value-right.ensures);
          stated_is = to_z-of_z stated_fits;
          right_is = to_z-of_z right_fits ∙ c.total_value-right.ensures;
        },
      ),
    )
