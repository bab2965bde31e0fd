use Rattle.std.proofs.Common.{ℕ, ◌<◌}
use Rattle.mono_curve.specs.Faults.{IsPlaced}
use Rattle.mono_curve.proofs.faults.first_misplaced.Given as goal

abbrev pub invariant-loop-k : goal.invariant-loop-k
invariant-loop-k l = (j : ℕ) → j < l.k → IsPlaced l.items j
