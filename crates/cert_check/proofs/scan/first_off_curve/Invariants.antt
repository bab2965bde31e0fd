use Rattle.std.proofs.Common.{ℕ, ◌<◌}
use Rattle.cert_check.specs.Verdict.{IsPairOfCurve}
use Rattle.cert_check.proofs.scan.first_off_curve.Given as goal

abbrev pub invariant-loop-j : goal.invariant-loop-j
invariant-loop-j l = (k : ℕ) → k < l.j → IsPairOfCurve l.g.network l.x l.u k
