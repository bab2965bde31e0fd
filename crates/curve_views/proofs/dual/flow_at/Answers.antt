use Rattle.std.proofs.Common.{to_z-of_z, FitsSigned, rules}
use Rattle.std.specs.Int.{w64}
use Rattle.theory.specs.Limits.{number_most}
use Rattle.curve_views.proofs.FlowOf.{pair_of_range, flow_between-within}
use Rattle.curve_views.proofs.dual.flow_at.Goals as goal

pub returns-clause-pair : goal.returns-clause-pair
returns-clause-pair g c =
    let fits : FitsSigned w64 c.finite_between.result = search rules in
    let range = rw (to_z-of_z c.ranges.v) at c.range_of-low.ensures in
    rw (to_z-of_z fits, c.finite_between.ensures)
    (pair_of_range (g.C.Listed.listing c.args.curve.now).items c.args.v c.range_of-low.result.0 c.range_of-low.result.1 (g.met.C.Listed.is_list c.args.curve.now) c.requires range)

pub returns-clause-within : goal.returns-clause-within
returns-clause-within g c =
    let fits : FitsSigned w64 c.finite_between.result = search rules in
    let range = rw (to_z-of_z c.ranges.v) at c.range_of-low.ensures in
    rw (to_z-of_z fits, c.finite_between.ensures)
    (flow_between-within number_most (g.C.Listed.listing c.args.curve.now).items c.args.v c.range_of-low.result.0 c.range_of-low.result.1 (g.met.C.Listed.is_list c.args.curve.now) (g.met.C.Listed.items_within c.args.curve.now) range)
