use Rattle.std.proofs.Common.{to_z-of_z, FitsSigned, rules}
use Rattle.std.specs.Prelude.{neg_ℤ}
use Rattle.std.specs.Int.{w64}
use Rattle.theory.specs.Limits.{number_most}
use Rattle.theory.specs.Readings.{IsRange}
use Rattle.mono_curve.proofs.ReadingBounds.{AreEndsWithin, range-within}
use Rattle.curve_views.proofs.ReversedReadings.{range-reversed}
use Rattle.curve_views.proofs.reversed.ReversedMonotone.range_at.Given.{Over}
use Rattle.curve_views.proofs.reversed.ReversedMonotone.range_at.Goals as goal
use Rattle.curve_views.proofs.reversed.ReversedMonotone.range_at.Goals.{After-range_at-low}

read : (g : Over) (c : After-range_at-low g) → IsRange (g.C.Monotone.items c.args.self.now.curve.now) (neg_ℤ c.args.v) c.range_at-low.result.0 c.range_at-low.result.1
read g c =
    let fits : FitsSigned w64 c.opposite.result = search rules in
    rw (to_z-of_z fits, c.opposite.ensures.value, to_z-of_z c.ranges.v) at c.range_at-low.ensures.range

small : (g : Over) (c : After-range_at-low g) → AreEndsWithin number_most c.range_at-low.result.0 c.range_at-low.result.1
small g c = range-within number_most (g.C.Monotone.items c.args.self.now.curve.now) _ _ _ (g.met.C.Monotone.is_list c.args.self.now.curve.now) (g.met.C.Monotone.items_within c.args.self.now.curve.now) (read g c)

pub opposite_ends-requires-clause-low : goal.opposite_ends-requires-clause-low
opposite_ends-requires-clause-low g c = (small g (goal.at.opposite_ends-requires-clause-low g c).After-range_at-low).low

pub opposite_ends-requires-clause-high : goal.opposite_ends-requires-clause-high
opposite_ends-requires-clause-high g c = (small g (goal.at.opposite_ends-requires-clause-high g c).After-range_at-low).high

pub returns-clause-range : goal.returns-clause-range
returns-clause-range g c =
    rw (c.opposite_ends.ensures.low, c.opposite_ends.ensures.high)
    (range-reversed (g.C.Monotone.items c.args.self.now.curve.now) c.args.v c.range_at-low.result.0 c.range_at-low.result.1 (g.met.C.Monotone.is_list c.args.self.now.curve.now) (read g (goal.at.returns-clause-range g c).After-range_at-low))
