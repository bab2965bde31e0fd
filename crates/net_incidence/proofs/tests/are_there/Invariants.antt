use Rattle.std.proofs.Common.{ℕ, ◌<◌}
use Rattle.theory.specs.Circuit.{step}
use Rattle.net_incidence.proofs.tests.are_there.Given as goal

abbrev pub invariant-loop-step : goal.invariant-loop-step
invariant-loop-step l = (k : ℕ) → k < l.step-index → (step l.walk k).arc.0 < l.arcs
