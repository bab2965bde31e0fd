use Rattle.std.proofs.Common.{◌≡◌, ℕ, ◌<◌, ◌≤◌, drop, length}
use Rattle.theory.specs.Network.{«at»}
use Rattle.theory.specs.Circuit.{step}
use Rattle.theory.specs.Sent.{sent_round}
use Rattle.feasible_flow.specs.UnderWay.{IsSameButFlows}
use Rattle.feasible_flow.proofs.moving.send_along.Given as goal

abbrev pub invariant-loop-k : goal.invariant-loop-k
invariant-loop-k l = record {
  left : sent_round l.fn.amount (drop l.k l.work.walk) l.work.flows ≡ sent_round l.fn.amount l.initial.work.walk l.initial.work.flows;
  ahead : (i : ℕ) → l.k ≤ i → i < length l.initial.work.walk
      → «at» l.work.flows (step l.initial.work.walk i).arc.0 ≡ «at» l.initial.work.flows (step l.initial.work.walk i).arc.0;
  same : IsSameButFlows l.initial.work l.work;
}
