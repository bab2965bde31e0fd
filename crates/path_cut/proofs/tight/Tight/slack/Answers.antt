use Rattle.theory.specs.Limits.{number_most}
use Rattle.theory.proofs.Bounds.{span_low-within, span_high-within}
use Rattle.feasible_flow.proofs.Lists.{are-curves}
use Rattle.path_cut.proofs.tight.Tight.slack.Goals as goal

pub above-requires-clause-end_within : goal.above-requires-clause-end_within
above-requires-clause-end_within g c =
    let curves = are-curves g.C.Monotone.items g.met.C.Monotone.is_list g.met.C.Monotone.items_within c.args.self.now.curves.now in
    rw c.ends-low.ensures.high (span_high-within number_most _ (curves.within c.args.arc.0))

pub below-requires-clause-end_within : goal.below-requires-clause-end_within
below-requires-clause-end_within g c =
    let curves = are-curves g.C.Monotone.items g.met.C.Monotone.is_list g.met.C.Monotone.items_within c.args.self.now.curves.now in
    rw c.ends-low.ensures.low (span_low-within number_most _ (curves.within c.args.arc.0))
