use Rattle.std.proofs.Common.{◌∙◌, sym}
use Rattle.curve_views.proofs.FlatReadings.{first-zero_cost, last-zero_cost}
use Rattle.curve_views.proofs.zero_cost.ZeroCostMonotone.domain.Goals as goal

pub returns-clause-low : goal.returns-clause-low
returns-clause-low g c = c.domain.ensures.low ∙ sym (first-zero_cost (g.C.Monotone.items c.args.self.now.curve.now) (g.met.C.Monotone.is_list c.args.self.now.curve.now))

pub returns-clause-high : goal.returns-clause-high
returns-clause-high g c = c.domain.ensures.high ∙ sym (last-zero_cost (g.C.Monotone.items c.args.self.now.curve.now) (g.met.C.Monotone.is_list c.args.self.now.curve.now))
