use Rattle.std.proofs.Common.{ℕ, ◌<◌}
use Rattle.mono_curve.specs.Faults.{IsSmall}
use Rattle.mono_curve.proofs.faults.first_large.Given as goal

abbrev pub invariant-loop-k : goal.invariant-loop-k
invariant-loop-k l = (j : ℕ) → j < l.k → IsSmall l.items j
