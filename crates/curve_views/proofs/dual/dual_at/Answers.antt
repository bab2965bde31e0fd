use Rattle.std.proofs.Common.{◌≡◌, ◌∙◌, sym, to_z, of_z, to_z-of_z, FitsSigned, arith, rules}
use Rattle.std.specs.Int.{w64, w128}
use Rattle.theory.specs.ConjugateCost.{conjugate_cost}
use Rattle.theory.proofs.Whole.{whole_tension}
use Rattle.theory.proofs.ConjugateCost.{cost-conjugate, conjugate-twice}
use Rattle.curve_views.proofs.FlowOf.{conjugate_cost-pair, conjugate_cost-equality}
use Rattle.curve_views.proofs.dual.dual_at.Given.{Over}
use Rattle.curve_views.proofs.dual.dual_at.Goals as goal
use Rattle.curve_views.proofs.dual.dual_at.Goals.{After-gain}

value_is : (g : Over) (c : After-gain g) → to_z w128 (of_z w128 c.gain.result) ≡ conjugate_cost 1 (g.C.Listed.listing c.args.curve.now) c.args.v
value_is g c =
    let fits : FitsSigned w128 c.gain.result = search rules in
    let flow_fits : FitsSigned w64 c.flow_at-flow.result = search rules in
    let cost_fits : FitsSigned w128 c.cost_at.result = search rules in
    let pair = rw (to_z-of_z c.ranges.v) at c.flow_at-flow.ensures.pair in
    let priced = rw (to_z-of_z flow_fits) at c.cost_at.ensures.value in
    let gained = rw (to_z-of_z flow_fits, to_z-of_z c.ranges.v, to_z-of_z cost_fits, priced) at c.gain.ensures.value in
    to_z-of_z fits ∙ gained
    ∙ conjugate_cost-pair (g.C.Listed.listing c.args.curve.now) c.flow_at-flow.result c.args.v (g.met.C.Listed.is_list c.args.curve.now) pair

pub returns-clause-value : goal.returns-clause-value
returns-clause-value g c = value_is g (goal.at.returns-clause-value g c).After-gain

pub returns-clause-of_conjugate : goal.returns-clause-of_conjugate
returns-clause-of_conjugate g c =
    value_is g (goal.at.returns-clause-of_conjugate g c).After-gain
    ∙ sym (cost-conjugate 1 (g.C.Listed.listing c.args.curve.now) c.args.v (omega arith) (g.met.C.Listed.is_list c.args.curve.now) c.requires.inside)

pub returns-clause-fenchel : goal.returns-clause-fenchel
returns-clause-fenchel g c = λ q p positive in_p. (
    let e = value_is g (goal.at.returns-clause-fenchel g c).After-gain in
    rw e (whole_tension q (g.C.Listed.listing c.args.curve.now) p c.args.v positive (g.met.C.Listed.is_list c.args.curve.now) in_p c.requires.inside))

pub returns-clause-equality : goal.returns-clause-equality
returns-clause-equality g c = λ x in_x. (
    let e = value_is g (goal.at.returns-clause-equality g c).After-gain in
    rw e (conjugate_cost-equality (g.C.Listed.listing c.args.curve.now) x c.args.v (g.met.C.Listed.is_list c.args.curve.now) c.requires.inside in_x))

pub returns-clause-twice : goal.returns-clause-twice
returns-clause-twice g c = conjugate-twice (g.C.Listed.listing c.args.curve.now) (g.met.C.Listed.is_list c.args.curve.now)
