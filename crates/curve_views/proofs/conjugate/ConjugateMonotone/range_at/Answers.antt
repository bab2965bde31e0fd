use Rattle.std.proofs.Common.{to_z-of_z}
use Rattle.theory.proofs.ConjugateReadings.{range-conjugate}
use Rattle.curve_views.proofs.conjugate.ConjugateMonotone.range_at.Goals as goal

pub returns-clause-range : goal.returns-clause-range
returns-clause-range g c =
    range-conjugate (g.C.Monotone.items c.args.self.now.curve.now) c.args.v c.slopes_at.result.0 c.slopes_at.result.1 (g.met.C.Monotone.is_list c.args.self.now.curve.now)
    (rw (to_z-of_z c.ranges.v) at c.slopes_at.ensures.slopes)
