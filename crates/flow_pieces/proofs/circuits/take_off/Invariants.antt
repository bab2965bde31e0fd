use Rattle.std.proofs.Common.{◌≡◌, ℕ, ◌-ℤ◌, take, length}
use Rattle.theory.specs.Network.{«at»}
use Rattle.flow_pieces.specs.Pieces.{carried}
use Rattle.flow_pieces.proofs.circuits.take_off.Given as goal

abbrev pub invariant-loop-step : goal.invariant-loop-step
invariant-loop-step l = record {
  same : length l.rest.items ≡ length l.initial.rest.items;
  less : (j : ℕ) → «at» l.rest.items j ≡ «at» l.initial.rest.items j -ℤ carried l.weight (take l.step-index l.circuit) j;
}
