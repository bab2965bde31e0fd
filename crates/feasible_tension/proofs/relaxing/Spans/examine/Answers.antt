-- What was read are the span's ends and the tension. A tension between them holds both bounds of the arc; one that passes an end
-- does so by a step over the arc whose bound is that end, within the limit, and the node where the step ends is lowered to it.
use Rattle.std.proofs.Common.{◌<◌, length, map, refl, sym, ap, ◌∙◌, subst, arith, rules, SFits, w64, to_z, of_z, to_z-of_z}
use Rattle.theory.specs.Ends.{whole}
use Rattle.theory.specs.Limits.{number_most, IsWithin}
use Rattle.net_incidence.specs.WithoutBases.{without_bases}
use Rattle.feasible_tension.specs.Bounds.{IsExamined}
use Rattle.feasible_tension.specs.Passed.{IsPassedBy}
use Rattle.feasible_tension.proofs.Bounded.{bounded, span_end-within}
use Rattle.feasible_tension.proofs.Examining.{ends-read, tension-read, inside-held, passed-end, passed-lowered}
use Rattle.feasible_tension.proofs.relaxing.Spans.examine.Goals as goal

pub returns-in_err-step-clause-examined : goal.returns-in_err-step-clause-examined
returns-in_err-step-clause-examined g c =
    let lists = map g.C.Monotone.items c.args.self.now.curves.now in
    let net = without_bases c.args.self.now.net.now lists in
    let ends = ends-read g.C.Monotone.items c.args.self.now.net.now c.args.self.now.curves.now c.index-self-arc.result c.args.arc.0
    c.span-low.result.0 c.span-low.result.1 (omega (arith, c.requires.there, c.requires.passable.one_curve_each))
    c.span-low.ensures.low c.span-low.ensures.high in
    let fits : SFits w64 c.tension-tension.result = search rules in
    let tension_is = tension-read c.args.self.now.net.now lists c.args.work.now.potentials c.potentials.result.now c.args.arc.0
    c.tension-tension.result fits c.tension-tension.ensures c.potentials.ensures in
    let held = inside-held net c.args.work.now.potentials c.args.arc.0 c.span-low.result.0 c.span-low.result.1 _ ends tension_is
    (c.passed.ensures.within c.in_err-step.was) in
    subst (λ result. IsExamined net c.args.arc.0 c.args.work.now result c.args.work.now) (sym c.from_residual.ensures) (held, refl)

pub lower-requires-clause-within : goal.lower-requires-clause-within
lower-requires-clause-within g c =
    let lists = map g.C.Monotone.items c.args.self.now.curves.now in
    let net = without_bases c.args.self.now.net.now lists in
    let ends = ends-read g.C.Monotone.items c.args.self.now.net.now c.args.self.now.curves.now c.index-self-arc.result c.args.arc.0
    c.span-low.result.0 c.span-low.result.1 (omega (arith, c.requires.there, c.requires.passable.one_curve_each))
    c.span-low.ensures.low c.span-low.ensures.high in
    let passed : IsPassedBy c.args.arc.0 c.span-low.result.0 c.span-low.result.1 (to_z w64 (of_z w64 c.tension-tension.result))
    c.in_ok-step.step c.in_ok-step.bound =
    c.in_ok-step.ensures.passed in
    let end = passed-end net c.args.arc.0 c.span-low.result.0 c.span-low.result.1 _ c.in_ok-step.step c.in_ok-step.bound ends passed in
    let bound_fits : SFits w64 c.in_ok-step.bound = search rules in
    let good = bounded g.C.Monotone.items c.args.self.now.net.now c.args.self.now.curves.now c.requires.passable.one_curve_each
    g.met.C.Monotone.is_list g.met.C.Monotone.items_within in
    let there : c.in_ok-step.step.arc.0 < length c.args.self.now.net.now.arcs = omega (arith, passed.over_arc, c.requires.there) in
    let within = span_end-within net c.in_ok-step.step good there in
    subst (IsWithin number_most) (ap whole end ∙ sym (to_z-of_z bound_fits)) within

pub lower-requires-clause-bound : goal.lower-requires-clause-bound
lower-requires-clause-bound g c =
    let lists = map g.C.Monotone.items c.args.self.now.curves.now in
    let net = without_bases c.args.self.now.net.now lists in
    let ends = ends-read g.C.Monotone.items c.args.self.now.net.now c.args.self.now.curves.now c.index-self-arc.result c.args.arc.0
    c.span-low.result.0 c.span-low.result.1 (omega (arith, c.requires.there, c.requires.passable.one_curve_each))
    c.span-low.ensures.low c.span-low.ensures.high in
    let passed : IsPassedBy c.args.arc.0 c.span-low.result.0 c.span-low.result.1 (to_z w64 (of_z w64 c.tension-tension.result))
    c.in_ok-step.step c.in_ok-step.bound =
    c.in_ok-step.ensures.passed in
    let end = passed-end net c.args.arc.0 c.span-low.result.0 c.span-low.result.1 _ c.in_ok-step.step c.in_ok-step.bound ends passed in
    let bound_fits : SFits w64 c.in_ok-step.bound = search rules in
    to_z-of_z bound_fits ∙ sym (ap whole end)

pub returns-clause-examined : goal.returns-clause-examined
returns-clause-examined g c =
    let lists = map g.C.Monotone.items c.args.self.now.curves.now in
    let net = without_bases c.args.self.now.net.now lists in
    let ends = ends-read g.C.Monotone.items c.args.self.now.net.now c.args.self.now.curves.now c.index-self-arc.result c.args.arc.0
    c.span-low.result.0 c.span-low.result.1 (omega (arith, c.requires.there, c.requires.passable.one_curve_each))
    c.span-low.ensures.low c.span-low.ensures.high in
    let fits : SFits w64 c.tension-tension.result = search rules in
    let tension_is = tension-read c.args.self.now.net.now lists c.args.work.now.potentials c.potentials.result.now c.args.arc.0
    c.tension-tension.result fits c.tension-tension.ensures c.potentials.ensures in
    let passed : IsPassedBy c.args.arc.0 c.span-low.result.0 c.span-low.result.1 (to_z w64 (of_z w64 c.tension-tension.result))
    c.in_ok-step.step c.in_ok-step.bound =
    c.in_ok-step.ensures.passed in
    let end = passed-end net c.args.arc.0 c.span-low.result.0 c.span-low.result.1 _ c.in_ok-step.step c.in_ok-step.bound ends passed in
    passed-lowered net c.args.arc.0 c.args.work.now c.lower.new.work c.span-low.result.0 c.span-low.result.1 _ c.in_ok-step.step c.in_ok-step.bound
    c.lower.result.0 ends tension_is passed c.lower.ensures.node c.lower.ensures.lowered
