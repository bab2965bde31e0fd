use Rattle.std.proofs.Common.{◌∙◌, to_z-of_z, FitsSigned, rules}
use Rattle.std.specs.Int.{w128}
use Rattle.theory.proofs.Whole.{whole_flow}
use Rattle.mono_curve.proofs.pricing.cost_at.Goals as goal

pub returns-clause-fenchel : goal.returns-clause-fenchel
returns-clause-fenchel g c = λ q w positive in_span. (
    let fits : FitsSigned w128 c.priced.result = search rules in
    let value = rw (to_z-of_z c.ranges.x) at c.priced.ensures.value in
    let e = to_z-of_z fits ∙ value in
    rw e (whole_flow q (g.C.Listed.listing c.args.curve.now) c.args.x w positive (g.met.C.Listed.is_list c.args.curve.now) c.requires.inside in_span))
