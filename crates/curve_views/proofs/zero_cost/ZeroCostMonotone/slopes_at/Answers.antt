use Rattle.std.proofs.Common.{to_z-of_z}
use Rattle.curve_views.proofs.FlatReadings.{slopes-zero_cost}
use Rattle.curve_views.proofs.zero_cost.ZeroCostMonotone.slopes_at.Goals as goal

pub returns-clause-slopes : goal.returns-clause-slopes
returns-clause-slopes g c =
    rw (c.slopes_by.ensures.low, c.slopes_by.ensures.high, to_z-of_z c.ranges.x, c.domain-first.ensures.low, c.domain-first.ensures.high)
    (slopes-zero_cost (g.C.Monotone.items c.args.self.now.curve.now) (g.met.C.Monotone.is_list c.args.self.now.curve.now) c.args.x)
