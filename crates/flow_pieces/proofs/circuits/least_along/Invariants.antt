use Rattle.std.proofs.Common.{◌≡◌, ℕ, ◌<◌, ◌≤ℤ◌, length}
use Rattle.theory.specs.Network.{«at»}
use Rattle.theory.specs.Circuit.{step}
use Rattle.net_incidence.specs.FlowAlong.{flow_along}
use Rattle.flow_pieces.proofs.circuits.least_along.Given as goal

abbrev pub invariant-loop-step : goal.invariant-loop-step
invariant-loop-step l = record {
  least : (k : ℕ) → k < l.step-index → l.least ≤ℤ flow_along («at» l.rest) (step l.circuit k);
  met : (k : ℕ) × (k < length l.circuit) × (l.least ≡ flow_along («at» l.rest) (step l.circuit k));
}
