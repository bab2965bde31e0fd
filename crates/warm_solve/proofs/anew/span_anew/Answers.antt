use Rattle.std.proofs.Common.{rules, refl, SFits, to_z-of_z}
use mir.Syntax.{w64, w128}
use Rattle.theory.specs.Domain.{InDomain}
use Rattle.theory.specs.Network.{«at», curve}
use Rattle.warm_solve.proofs.Staying.{circuit-if, circuit-unless, circuit-untouched}
use Rattle.warm_solve.proofs.anew.span_anew.Goals as goal

pub returns-in-Some-clause-stays : goal.returns-in-Some-clause-stays
returns-in-Some-clause-stays c =
    let net = c.args.g.now.network in
    let a = c.args.arc.0 in
    let flow_fits : SFits w64 («at» c.args.x.now a) = search rules in
    let fits : SFits w128 c.args.span = search rules in
    let here : InDomain 1 (curve net a).items («at» c.args.x.now a) =
    rw (to_z-of_z flow_fits, c.domain_of-low.ensures.low, c.domain_of-low.ensures.high, c.curve.ensures) at (c.if-not-is_between.ensures.0 refl) in
    let sum = rw (to_z-of_z fits, c.passing_part.ensures.value, c.passing_part-in-Some.ensures.value, c.curve-in-Some.ensures) at c.sum_with.ensures in
    circuit-if net a c.args.before.now.listing c.args.g.now.good c.requires.there c.args.x.now c.args.walk.now c.args.span c.requires.valid
    c.in-Some.k c.in-Some.ensures.there c.in-Some.ensures.over c.sum_with.result here sum

pub returns-in-Some-clause-goes : goal.returns-in-Some-clause-goes
returns-in-Some-clause-goes c =
    let net = c.args.g.now.network in
    let fits : SFits w128 c.args.span = search rules in
    let sum = rw (to_z-of_z fits, c.passing_part.ensures.value, c.passing_part-in-Some.ensures.value, c.curve-in-Some.ensures) at c.sum_with.ensures in
    circuit-unless net c.args.arc.0 c.args.before.now.listing c.args.g.now.good c.requires.there c.args.x.now c.args.walk.now c.args.span c.requires.valid
    c.in-Some.k c.in-Some.ensures.there c.in-Some.ensures.over c.sum_with.result sum

pub returns-in-None-clause-stays : goal.returns-in-None-clause-stays
returns-in-None-clause-stays c =
    let net = c.args.g.now.network in
    let a = c.args.arc.0 in
    let flow_fits : SFits w64 («at» c.args.x.now a) = search rules in
    let fits : SFits w128 c.args.span = search rules in
    let here : InDomain 1 (curve net a).items («at» c.args.x.now a) =
    rw (to_z-of_z flow_fits, c.domain_of-low.ensures.low, c.domain_of-low.ensures.high, c.curve.ensures) at (c.if-not-is_between.ensures.0 refl) in
    rw (to_z-of_z fits)
    (circuit-untouched net a c.args.before.now.listing c.args.g.now.good c.requires.there c.args.x.now c.args.walk.now c.args.span c.requires.valid
    c.in-None.ensures.none here)
