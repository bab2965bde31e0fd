use Rattle.std.proofs.Common.{◌∙◌, sym, ap}
use Rattle.theory.specs.declared.ext.Ext.{Ext}
use Rattle.theory.specs.declared.ext.Ext.TheVariants.{MinusInf, PlusInf}
use Rattle.curve_views.specs.ZeroCostReadings.{slope_or}
use Rattle.curve_views.proofs.FlatReadings.{span_low-zero_cost, span_high-zero_cost}
use Rattle.curve_views.proofs.zero_cost.ZeroCostMonotone.span.Goals as goal

pub returns-clause-low : goal.returns-clause-low
returns-clause-low g c = c.span_end.ensures ∙ ap (λ (e : Ext). slope_or e MinusInf) c.domain-first.ensures.low ∙ sym (span_low-zero_cost (g.C.Monotone.items c.args.self.now.curve.now) (g.met.C.Monotone.is_list c.args.self.now.curve.now))

pub returns-clause-high : goal.returns-clause-high
returns-clause-high g c = c.span_end-2.ensures ∙ ap (λ (e : Ext). slope_or e PlusInf) c.domain-first.ensures.high ∙ sym (span_high-zero_cost (g.C.Monotone.items c.args.self.now.curve.now) (g.met.C.Monotone.is_list c.args.self.now.curve.now))
