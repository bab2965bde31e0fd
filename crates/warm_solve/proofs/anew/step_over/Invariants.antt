use Rattle.std.proofs.Common.{◌≢◌, ℕ, ◌<◌}
use Rattle.theory.specs.Circuit.{step}
use Rattle.warm_solve.proofs.anew.step_over.Given as goal

abbrev pub invariant-loop-k : goal.invariant-loop-k
invariant-loop-k l = (k : ℕ) → k < l.k → (step l.walk k).arc.0 ≢ l.arc.0
