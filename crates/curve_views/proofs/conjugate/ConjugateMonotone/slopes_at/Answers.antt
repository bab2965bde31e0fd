use Rattle.std.proofs.Common.{to_z-of_z}
use Rattle.theory.proofs.ConjugateReadings.{slopes-conjugate}
use Rattle.curve_views.proofs.conjugate.ConjugateMonotone.slopes_at.Goals as goal

pub returns-clause-slopes : goal.returns-clause-slopes
returns-clause-slopes g c =
    slopes-conjugate (g.C.Monotone.items c.args.self.now.curve.now) c.args.x c.range_at.result.0 c.range_at.result.1 (g.met.C.Monotone.is_list c.args.self.now.curve.now)
    (rw (to_z-of_z c.ranges.x) at c.range_at.ensures.range)
