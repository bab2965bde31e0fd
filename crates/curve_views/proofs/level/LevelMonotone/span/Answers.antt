use Rattle.std.proofs.Common.{◌∙◌, sym}
use Rattle.curve_views.proofs.LevelEnds.{span_of_level}
use Rattle.curve_views.proofs.level.LevelMonotone.span.Goals as goal

pub returns-clause-low : goal.returns-clause-low
returns-clause-low g c =
    c.span.ensures.low ∙ sym (span_of_level c.args.self.now.k (g.C.Monotone.items c.args.self.now.curve.now) (g.met.C.Monotone.is_list c.args.self.now.curve.now)).low

pub returns-clause-high : goal.returns-clause-high
returns-clause-high g c =
    c.span.ensures.high ∙ sym (span_of_level c.args.self.now.k (g.C.Monotone.items c.args.self.now.curve.now) (g.met.C.Monotone.is_list c.args.self.now.curve.now)).high
