use Rattle.std.proofs.Common.{◌∙◌, sym}
use Rattle.theory.proofs.ConjugateList.{conjugate-is_list}
use Rattle.curve_views.proofs.conjugate.ConjugateMonotone.span.Goals as goal

pub returns-clause-low : goal.returns-clause-low
returns-clause-low g c = c.domain.ensures.low ∙ sym (conjugate-is_list (g.C.Monotone.items c.args.self.now.curve.now) (g.met.C.Monotone.is_list c.args.self.now.curve.now)).span_low

pub returns-clause-high : goal.returns-clause-high
returns-clause-high g c = c.domain.ensures.high ∙ sym (conjugate-is_list (g.C.Monotone.items c.args.self.now.curve.now) (g.met.C.Monotone.is_list c.args.self.now.curve.now)).span_high
