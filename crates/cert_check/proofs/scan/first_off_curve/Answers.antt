use Rattle.std.proofs.Common.{◌≡◌, refl, arith, rules, ap, length, SFits, to_z-of_z}
use mir.Syntax.{w64}
use Rattle.std.proofs.lemmas.Bool.{false≢true}
use Rattle.theory.specs.Network.{Network, «at»}
use Rattle.cert_check.specs.Verdict.{IsPairOfCurve}
use Rattle.cert_check.proofs.Scans.{passes-further}
use Rattle.cert_check.proofs.scan.first_off_curve.Goals as goal

pub returns-then-not-on_curve-clause-some : goal.returns-then-not-on_curve-clause-some
returns-then-not-on_curve-clause-some c =
    let flow_fits : SFits w64 («at» c.args.x.now c.loop-j.j) = search rules in
    let tension_fits : SFits w64 c.tension_on.result = search rules in
    let count : length c.net.result.now.arcs ≡ length c.args.g.now.network.arcs = ap (λ (n : Network). length n.arcs) c.net.ensures in
    record {
      there = omega (arith, c.arcs-j-end.ensures, c.loop-j-test.true);
      fails = λ pair. false≢true (c.if-not-on_curve.ensures.1 (rw (to_z-of_z flow_fits, to_z-of_z tension_fits, c.curve.ensures, c.tension_on.ensures.value) pair));
      before = c.loop-j.invariant;
    }

pub loop-j-preserved : goal.loop-j-preserved
loop-j-preserved c =
    let flow_fits : SFits w64 («at» c.args.x.now c.loop-j.j) = search rules in
    let tension_fits : SFits w64 c.tension_on.result = search rules in
    let here : IsPairOfCurve c.args.g.now.network c.args.x.now c.args.u.now c.loop-j.j =
    rw (to_z-of_z flow_fits, to_z-of_z tension_fits, c.curve.ensures, c.tension_on.ensures.value) at (c.if-not-on_curve.ensures.0 refl) in
    passes-further (IsPairOfCurve c.args.g.now.network c.args.x.now c.args.u.now) c.loop-j.j c.loop-j.invariant here
