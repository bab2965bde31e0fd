use Rattle.std.proofs.Common.{to_z-of_z, FitsSigned, rules}
use Rattle.std.specs.Prelude.{neg_ℤ}
use Rattle.std.specs.Int.{w64}
use Rattle.theory.specs.Limits.{number_most}
use Rattle.theory.specs.Readings.{IsSlopes}
use Rattle.mono_curve.proofs.ReadingBounds.{AreEndsWithin, slopes-within}
use Rattle.curve_views.proofs.ReversedReadings.{slopes-reversed}
use Rattle.curve_views.proofs.reversed.ReversedMonotone.slopes_at.Given.{Over}
use Rattle.curve_views.proofs.reversed.ReversedMonotone.slopes_at.Goals as goal
use Rattle.curve_views.proofs.reversed.ReversedMonotone.slopes_at.Goals.{After-slopes_at-low}

read : (g : Over) (c : After-slopes_at-low g) → IsSlopes (g.C.Monotone.items c.args.self.now.curve.now) (neg_ℤ c.args.x) c.slopes_at-low.result.0 c.slopes_at-low.result.1
read g c =
    let fits : FitsSigned w64 c.opposite.result = search rules in
    rw (to_z-of_z fits, c.opposite.ensures.value, to_z-of_z c.ranges.x) at c.slopes_at-low.ensures.slopes

small : (g : Over) (c : After-slopes_at-low g) → AreEndsWithin number_most c.slopes_at-low.result.0 c.slopes_at-low.result.1
small g c = slopes-within number_most (g.C.Monotone.items c.args.self.now.curve.now) _ _ _ (g.met.C.Monotone.is_list c.args.self.now.curve.now) (g.met.C.Monotone.items_within c.args.self.now.curve.now) (read g c)

pub opposite_ends-requires-clause-low : goal.opposite_ends-requires-clause-low
opposite_ends-requires-clause-low g c = (small g (goal.at.opposite_ends-requires-clause-low g c).After-slopes_at-low).low

pub opposite_ends-requires-clause-high : goal.opposite_ends-requires-clause-high
opposite_ends-requires-clause-high g c = (small g (goal.at.opposite_ends-requires-clause-high g c).After-slopes_at-low).high

pub returns-clause-slopes : goal.returns-clause-slopes
returns-clause-slopes g c =
    rw (c.opposite_ends.ensures.low, c.opposite_ends.ensures.high)
    (slopes-reversed (g.C.Monotone.items c.args.self.now.curve.now) c.args.x c.slopes_at-low.result.0 c.slopes_at-low.result.1 (g.met.C.Monotone.is_list c.args.self.now.curve.now) (read g (goal.at.returns-clause-slopes g c).After-slopes_at-low))
