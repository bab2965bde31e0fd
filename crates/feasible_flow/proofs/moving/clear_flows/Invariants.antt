use Rattle.std.proofs.Common.{◌≡◌, ℕ, ◌<◌, pos}
use Rattle.theory.specs.Network.{«at»}
use Rattle.feasible_flow.specs.UnderWay.{IsSameButFlows}
use Rattle.feasible_flow.proofs.moving.clear_flows.Given as goal

abbrev pub invariant-loop-j : goal.invariant-loop-j
invariant-loop-j l = record {
  zero : (k : ℕ) → k < l.j → «at» l.work.flows k ≡ pos 0;
  same : IsSameButFlows l.initial.work l.work;
}
