use Rattle.std.proofs.Common.{◌≡◌, ℕ, ◌*◌, ◌/◌, ◌∙◌, pos, sym, subst, to_z-of_z, FitsSigned, arith, rules}
use Rattle.std.specs.Prelude.{slice_index_or}
use Rattle.std.specs.Int.{w64}
use Rattle.theory.specs.Ends.{IsFinite}
use Rattle.theory.specs.CurveList.{item}
use Rattle.mono_curve.specs.PointCosts.{bare, point_cost}
use Rattle.mono_curve.proofs.kept.cost_at_point.Goals as goal

pub returns-then-i-costs : goal.returns-then-i-costs
returns-then-i-costs c =
    let items = c.args.items.now in
    let price = slice_index_or c.args.costs.now (c.args.i / 2) (pos 0) in
    let fits : FitsSigned w64 price = search rules in
    let place : 2 * (c.args.i / 2) ≡ c.args.i = omega (arith, c.requires.point.even) in
    let finite = subst (λ (i : ℕ). IsFinite (item items i)) (sym place) c.requires.point.finite in
    to_z-of_z fits ∙ subst (λ (i : ℕ). price ≡ point_cost (bare items) i) place (c.requires.kept (c.args.i / 2) c.if-i-costs.true finite)
