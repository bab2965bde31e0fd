use Rattle.std.proofs.Common.{◌≡◌, ℕ, ◌-◌, ◌∙◌, subst, to_z-of_z, FitsSigned, rules}
use Rattle.std.specs.Int.{w128}
use Rattle.mono_curve.specs.PointCosts.{point_cost}
use Rattle.curve_views.proofs.TurnedCosts.{reversed_price}
use Rattle.curve_views.proofs.reversed.ReversedListed.cost_here.Goals as goal

pub returns : goal.returns
returns g c =
    let curve = c.args.self.now.curve.now in
    let l = g.C.Listed.listing curve in
    let fits : FitsSigned w128 c.cost_here.result = search rules in
    let is = subst (λ (n : ℕ). c.cost_here.result ≡ point_cost l (n - 1 - c.args.i)) c.len.ensures c.cost_here.ensures in
    to_z-of_z fits ∙ is ∙ reversed_price l c.args.i (g.met.C.Listed.is_list curve) c.requires.inside
