use Rattle.std.proofs.Common.{ℕ, ◌<◌, ◌≤◌, length}
use Rattle.theory.specs.Circuit.{step, begin_of}
use Rattle.net_incidence.specs.Graph.{bare}
use Rattle.flow_pieces.proofs.circuits.least_begin.Given as goal

abbrev pub invariant-loop-k : goal.invariant-loop-k
invariant-loop-k l = record {
  in_walk : l.turn < length l.circuit;
  least : (i : ℕ) → i < l.k → begin_of (bare l.net) (step l.circuit l.turn) ≤ begin_of (bare l.net) (step l.circuit i);
}
