use Rattle.std.proofs.Common.{◌≡◌, ℤ, subst, to_z-of_z, FitsSigned, rules}
use Rattle.std.specs.Int.{w128}
use Rattle.theory.specs.Cost.{cost}
use Rattle.mono_curve.specs.PointCosts.{bare}
use Rattle.mono_curve.proofs.PieceCosts.{bare-small}
use Rattle.mono_curve.proofs.kept.cost_of.Goals as goal

pub narrowed-requires : goal.narrowed-requires
narrowed-requires c =
    let items = c.args.items.now in
    let fits : FitsSigned w128 c.cost_by_pieces.result = search rules in
    let is = subst (λ (x : ℤ). c.cost_by_pieces.result ≡ cost 1 (bare items) x) (to_z-of_z c.ranges.x) c.cost_by_pieces.ensures in
    rw (to_z-of_z fits, is) (bare-small items c.args.x c.requires.list c.requires.within c.requires.flow_within)
