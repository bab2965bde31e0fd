use Rattle.std.proofs.Common.{◌*◌, to_z-of_z, FitsSigned, arith, rules}
use Rattle.std.specs.Int.{w64}
use Rattle.theory.specs.Span.{rest_tension}
use Rattle.theory.specs.Limits.{number_most, flow_most}
use Rattle.theory.proofs.Bounds.{within_more, rest_tension-within}
use Rattle.theory.proofs.ConjugateCost.{rest_tension-in_span}
use Rattle.curve_views.proofs.conjugate.ConjugateListed.base.Goals as goal

pub dual_at-requires-clause-inside : goal.dual_at-requires-clause-inside
dual_at-requires-clause-inside g c =
    let fits : FitsSigned w64 c.clip_to.result = search rules in
    rw (to_z-of_z fits, c.clip_to.ensures, c.span_of-low.ensures.low, c.span_of-low.ensures.high)
    (rest_tension-in_span (g.C.Listed.listing c.args.self.now.curve.now).items (g.met.C.Listed.is_list c.args.self.now.curve.now))

pub dual_at-requires-clause-tension_within : goal.dual_at-requires-clause-tension_within
dual_at-requires-clause-tension_within g c =
    let fits : FitsSigned w64 c.clip_to.result = search rules in
    rw (to_z-of_z fits, c.clip_to.ensures, c.span_of-low.ensures.low, c.span_of-low.ensures.high)
    (within_more number_most (2 * flow_most) (rest_tension (g.C.Listed.listing c.args.self.now.curve.now).items) (omega arith)
    (rest_tension-within number_most (g.C.Listed.listing c.args.self.now.curve.now).items (g.met.C.Listed.items_within c.args.self.now.curve.now)))
