use Rattle.std.proofs.Common.{◌≡◌, ◌*◌, ap, ◌∙◌, rules, arith, refl, ℤ, SFits, to_z, of_z, to_z-of_z}
use mir.Syntax.{w64, w128}
use Rattle.std.proofs.lemmas.Bool.{false≢true}
use Rattle.theory.specs.OnCurve.{IsOnCurve}
use Rattle.theory.specs.Network.{Network, «at», curve}
use Rattle.theory.specs.Conserved.{tension}
use Rattle.theory.specs.Limits.{IsWithin, flow_most}
use Rattle.theory.proofs.Bounds.{within_more}
use Rattle.warm_solve.proofs.Near.{small}
use Rattle.warm_solve.proofs.Staying.{pair-kept}
use Rattle.warm_solve.proofs.anew.cost_anew.Goals as goal

pub tension-requires-clause-small : goal.tension-requires-clause-small
tension-requires-clause-small c = small _ c.args.u.now c.requires.valid.1.fits.0.1.numbers

pub cost_at-now-requires-clause-inside : goal.cost_at-now-requires-clause-inside
cost_at-now-requires-clause-inside c = rw (c.curve-then-on_curve.ensures, ← c.curve.ensures) (c.if-on_curve.ensures.0 refl).in_domain

twice : (x : ℤ) → SFits w64 x → IsWithin flow_most x → IsWithin (2 * flow_most) (to_z w64 (of_z w64 x))
twice x fits near = rw (to_z-of_z fits) (within_more flow_most (2 * flow_most) x (omega arith) near)

pub cost_at-now-requires-clause-flow_within : goal.cost_at-now-requires-clause-flow_within
cost_at-now-requires-clause-flow_within c =
    twice («at» c.args.x.now c.args.arc.0) (search rules) (c.requires.valid.1.fits.0.0.within c.args.arc.0 c.requires.there)

pub cost_at-requires-clause-flow_within : goal.cost_at-requires-clause-flow_within
cost_at-requires-clause-flow_within c =
    twice («at» c.args.x.now c.args.arc.0) (search rules) (c.requires.valid.1.fits.0.0.within c.args.arc.0 c.requires.there)

pub returns-then-on_curve-clause-stays : goal.returns-then-on_curve-clause-stays
returns-then-on_curve-clause-stays c =
    let net = c.args.g.now.network in
    let a = c.args.arc.0 in
    let x = c.args.x.now in
    let u = c.args.u.now in
    let flow_fits : SFits w64 («at» x a) = search rules in
    let tension_fits : SFits w64 c.tension.result = search rules in
    let cost_fits : SFits w128 c.args.cost = search rules in
    let before_fits : SFits w128 c.cost_at.result = search rules in
    let now_fits : SFits w128 c.cost_at-now.result = search rules in
    let moved_fits : SFits w128 c.moved.result = search rules in
    let tension_is : c.tension.result ≡ tension net («at» u) a =
    c.tension.ensures ∙ ap (λ (n : Network). tension n («at» u) a) c.net.ensures in
    let here : IsOnCurve 1 (curve net a).items («at» x a) (tension net («at» u) a) =
    rw (to_z-of_z flow_fits, to_z-of_z tension_fits, c.curve.ensures, tension_is) at (c.if-on_curve.ensures.0 refl) in
    let before_is = rw (to_z-of_z flow_fits) at c.cost_at.ensures.value in
    let now_is = rw (to_z-of_z flow_fits, c.curve-then-on_curve.ensures) at c.cost_at-now.ensures.value in
    let moved_is = rw (to_z-of_z cost_fits, to_z-of_z before_fits, to_z-of_z now_fits, before_is, now_is) at c.moved.ensures in
    rw (to_z-of_z moved_fits)
    (pair-kept net a c.args.before.now.listing c.args.g.now.good c.requires.there x u c.args.cost c.requires.valid.0 c.requires.valid.1
    c.moved.result here moved_is)

pub returns-else-on_curve-clause-goes : goal.returns-else-on_curve-clause-goes
returns-else-on_curve-clause-goes c =
    let net = c.args.g.now.network in
    let a = c.args.arc.0 in
    let x = c.args.x.now in
    let u = c.args.u.now in
    let flow_fits : SFits w64 («at» x a) = search rules in
    let tension_fits : SFits w64 c.tension.result = search rules in
    let tension_is : c.tension.result ≡ tension net («at» u) a =
    c.tension.ensures ∙ ap (λ (n : Network). tension n («at» u) a) c.net.ensures in
    λ pair.
    false≢true
    (c.if-on_curve.ensures.1
    (rw (to_z-of_z flow_fits, to_z-of_z tension_fits, c.curve.ensures, tension_is) (pair.on_curves a c.requires.there)))
