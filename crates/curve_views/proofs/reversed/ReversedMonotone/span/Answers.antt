use Rattle.std.proofs.Common.{◌∙◌, sym, ap}
use Rattle.theory.specs.Ends.{negated}
use Rattle.theory.specs.Limits.{number_most}
use Rattle.theory.proofs.ReversedPairs.{span_low-reversed, span_high-reversed}
use Rattle.mono_curve.proofs.ReadingBounds.{span-within}
use Rattle.curve_views.proofs.reversed.ReversedMonotone.span.Goals as goal

pub opposite_ends-requires-clause-high : goal.opposite_ends-requires-clause-high
opposite_ends-requires-clause-high g c =
    (span-within number_most (g.C.Monotone.items c.args.self.now.curve.now) _ _ (g.met.C.Monotone.is_list c.args.self.now.curve.now) (g.met.C.Monotone.items_within c.args.self.now.curve.now) c.span-low.ensures.low c.span-low.ensures.high).high

pub returns-clause-low : goal.returns-clause-low
returns-clause-low g c =
    c.opposite_ends.ensures.low ∙ ap negated c.span-low.ensures.high ∙ sym (span_low-reversed (g.C.Monotone.items c.args.self.now.curve.now) (g.met.C.Monotone.is_list c.args.self.now.curve.now))

pub returns-clause-high : goal.returns-clause-high
returns-clause-high g c =
    c.opposite_ends.ensures.high ∙ ap negated c.span-low.ensures.low ∙ sym (span_high-reversed (g.C.Monotone.items c.args.self.now.curve.now) (g.met.C.Monotone.is_list c.args.self.now.curve.now))
