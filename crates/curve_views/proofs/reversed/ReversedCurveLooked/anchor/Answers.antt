use Rattle.std.proofs.Common.{◌≡◌, ℕ, ◌-◌, ◌∙◌, subst, to_z-of_z, FitsSigned, rules}
use Rattle.std.specs.Int.{w128}
use Rattle.mono_curve.specs.PointCosts.{point_cost}
use Rattle.curve_views.proofs.TurnedCosts.{reversed_price}
use Rattle.curve_views.proofs.reversed.ReversedCurveLooked.anchor.Goals as goal

pub returns-clause-cost : goal.returns-clause-cost
returns-clause-cost g c =
    let curve = c.args.self.now.curve.now in
    let l = curve.listing in
    let fits : FitsSigned w128 c.anchor.result = search rules in
    let is = subst (λ (n : ℕ). c.anchor.result ≡ point_cost l (n - 1 - c.args.i)) c.len.ensures c.anchor.ensures.cost in
    to_z-of_z fits ∙ is ∙ reversed_price l c.args.i curve.valid.is_list c.requires.inside
