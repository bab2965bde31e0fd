use Rattle.std.proofs.Common.{◌∙◌, sym, ap}
use Rattle.theory.specs.Ends.{negated}
use Rattle.theory.specs.Limits.{number_most}
use Rattle.theory.proofs.ReversedPairs.{first-reversed, last-reversed}
use Rattle.mono_curve.proofs.ReadingBounds.{domain-within}
use Rattle.curve_views.proofs.reversed.ReversedMonotone.domain.Goals as goal

pub opposite_ends-requires-clause-high : goal.opposite_ends-requires-clause-high
opposite_ends-requires-clause-high g c =
    (domain-within number_most (g.C.Monotone.items c.args.self.now.curve.now) _ _ (g.met.C.Monotone.is_list c.args.self.now.curve.now) (g.met.C.Monotone.items_within c.args.self.now.curve.now) c.domain-low.ensures.low c.domain-low.ensures.high).high

pub returns-clause-low : goal.returns-clause-low
returns-clause-low g c =
    c.opposite_ends.ensures.low ∙ ap negated c.domain-low.ensures.high ∙ sym (first-reversed (g.C.Monotone.items c.args.self.now.curve.now) (g.met.C.Monotone.is_list c.args.self.now.curve.now))

pub returns-clause-high : goal.returns-clause-high
returns-clause-high g c =
    c.opposite_ends.ensures.high ∙ ap negated c.domain-low.ensures.low ∙ sym (last-reversed (g.C.Monotone.items c.args.self.now.curve.now) (g.met.C.Monotone.is_list c.args.self.now.curve.now))
