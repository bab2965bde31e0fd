use Rattle.std.proofs.Common.{ℕ, ◌<◌}
use Rattle.mono_curve.specs.Faults.{Rises}
use Rattle.mono_curve.proofs.faults.first_not_rising.Given as goal

abbrev pub invariant-loop-k : goal.invariant-loop-k
invariant-loop-k l = (j : ℕ) → j < l.k → Rises l.items j
