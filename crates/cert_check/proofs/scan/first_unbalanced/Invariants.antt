use Rattle.std.proofs.Common.{ℕ, ◌<◌}
use Rattle.cert_check.specs.Verdict.{IsBalanced}
use Rattle.cert_check.proofs.scan.first_unbalanced.Given as goal

abbrev pub invariant-loop-i : goal.invariant-loop-i
invariant-loop-i l = (k : ℕ) → k < l.i → IsBalanced l.g.network l.x k
