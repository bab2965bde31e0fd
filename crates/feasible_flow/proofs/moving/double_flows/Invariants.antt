use Rattle.std.proofs.Common.{◌≡◌, ℕ, ◌<◌, ◌≤◌, pos, ◌*ℤ◌}
use Rattle.theory.specs.Network.{«at»}
use Rattle.feasible_flow.specs.UnderWay.{IsSameButFlows}
use Rattle.feasible_flow.proofs.moving.double_flows.Given as goal

abbrev pub invariant-loop-j : goal.invariant-loop-j
invariant-loop-j l = record {
  twice : (k : ℕ) → k < l.j → «at» l.work.flows k ≡ pos 2 *ℤ «at» l.initial.work.flows k;
  still : (k : ℕ) → l.j ≤ k → «at» l.work.flows k ≡ «at» l.initial.work.flows k;
  same : IsSameButFlows l.initial.work l.work;
}
