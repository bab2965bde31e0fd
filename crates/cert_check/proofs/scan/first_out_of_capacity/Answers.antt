use Rattle.std.proofs.Common.{refl, rules, SFits, to_z-of_z}
use mir.Syntax.{w64}
use Rattle.theory.specs.Network.{«at»}
use Rattle.cert_check.specs.Verdict.{IsInCapacity}
use Rattle.cert_check.proofs.Scans.{passes-further}
use Rattle.cert_check.proofs.scan.first_out_of_capacity.Goals as goal

pub loop-j-preserved : goal.loop-j-preserved
loop-j-preserved c =
    let fits : SFits w64 («at» c.args.x.now c.loop-j.j) = search rules in
    let e = c.domain_of-low.ensures in
    let read : IsInCapacity c.args.g.now.network c.args.x.now c.loop-j.j =
    rw (to_z-of_z fits, e.low, e.high, c.curve.ensures) at (c.if-not-is_between.ensures.0 refl) in
    passes-further (IsInCapacity c.args.g.now.network c.args.x.now) c.loop-j.j c.loop-j.invariant read
