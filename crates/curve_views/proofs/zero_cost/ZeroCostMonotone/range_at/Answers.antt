use Rattle.std.proofs.Common.{to_z-of_z}
use Rattle.curve_views.proofs.FlatReadings.{range-zero_cost}
use Rattle.curve_views.proofs.zero_cost.ZeroCostMonotone.range_at.Goals as goal

pub returns-clause-range : goal.returns-clause-range
returns-clause-range g c =
    rw (c.range_by.ensures.low, c.range_by.ensures.high, to_z-of_z c.ranges.v, c.domain-first.ensures.low, c.domain-first.ensures.high)
    (range-zero_cost (g.C.Monotone.items c.args.self.now.curve.now) (g.met.C.Monotone.is_list c.args.self.now.curve.now) c.args.v)
