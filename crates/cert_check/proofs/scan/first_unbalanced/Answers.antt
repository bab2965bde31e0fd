use Rattle.std.proofs.Common.{◌≡◌, pos, sym, ◌∙◌, rules}
use Rattle.cert_check.specs.Verdict.{IsBalanced}
use Rattle.cert_check.proofs.Nets.{balanced_by_divergence}
use Rattle.cert_check.proofs.Scans.{passes-further}
use Rattle.cert_check.proofs.scan.first_unbalanced.Goals as goal

pub loop-i-preserved : goal.loop-i-preserved
loop-i-preserved c =
    let none : c.divergence.result ≡ pos 0 = search rules in
    let net = c.args.g.now.network in
    passes-further (IsBalanced net c.args.x.now) c.loop-i.i c.loop-i.invariant
    (balanced_by_divergence c.net-in-loop-i.result.now net c.args.x.now c.loop-i.i c.net-in-loop-i.ensures (sym c.divergence.ensures ∙ none))
