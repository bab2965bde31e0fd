use Rattle.std.proofs.Common.{◌∙◌, sym, ap}
use Rattle.theory.specs.Limits.{number_most}
use Rattle.theory.specs.Views.{rounded_down, rounded_up}
use Rattle.mono_curve.proofs.ReadingBounds.{domain-within}
use Rattle.curve_views.proofs.LevelEnds.{first-level, last-level}
use Rattle.curve_views.proofs.level.LevelMonotone.domain.Goals as goal

pub up-requires-clause-small : goal.up-requires-clause-small
up-requires-clause-small g c =
    (domain-within number_most (g.C.Monotone.items c.args.self.now.curve.now) _ _ (g.met.C.Monotone.is_list c.args.self.now.curve.now) (g.met.C.Monotone.items_within c.args.self.now.curve.now) c.domain-first.ensures.low c.domain-first.ensures.high).high

pub returns-clause-low : goal.returns-clause-low
returns-clause-low g c =
    c.down.ensures ∙ ap (rounded_down c.args.self.now.k) c.domain-first.ensures.low ∙ sym (first-level c.args.self.now.k (g.C.Monotone.items c.args.self.now.curve.now) (g.met.C.Monotone.is_list c.args.self.now.curve.now))

pub returns-clause-high : goal.returns-clause-high
returns-clause-high g c =
    c.up.ensures ∙ ap (rounded_up c.args.self.now.k) c.domain-first.ensures.high ∙ sym (last-level c.args.self.now.k (g.C.Monotone.items c.args.self.now.curve.now) (g.met.C.Monotone.is_list c.args.self.now.curve.now))
