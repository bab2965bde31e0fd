use Rattle.std.proofs.Common.{ℕ, ◌<◌}
use Rattle.cert_check.specs.Verdict.{IsInCapacity}
use Rattle.cert_check.proofs.scan.first_out_of_capacity.Given as goal

abbrev pub invariant-loop-j : goal.invariant-loop-j
invariant-loop-j l = (k : ℕ) → k < l.j → IsInCapacity l.g.network l.x k
