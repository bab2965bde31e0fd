use Rattle.std.proofs.Common.{ℕ, ◌+◌, ◌*◌, ◌<◌, ◌≤◌}
use Rattle.theory.specs.Network.{«at», list_at}
use Rattle.theory.specs.Circuit.{step}
use Rattle.feasible_flow.specs.Violations.{HasRoom}
use Rattle.feasible_flow.specs.UnderWay.{look_cost}
use Rattle.feasible_flow.specs.ByLevels.{levels_of}
use Rattle.feasible_flow.proofs.domains.Domains.room_along.Given as goal

abbrev pub invariant-loop-k : goal.invariant-loop-k
invariant-loop-k g l = record {
  some : 1 ≤ l.room;
  most : l.room ≤ l.fn.amount;
  room : (i : ℕ) → i < l.k → (amount : ℕ) → amount ≤ l.room
      → HasRoom (list_at (levels_of g.C.Monotone.items l.self.level l.self.curves.now) (step l.work.walk i).arc.0) («at» l.work.flows (step l.work.walk i).arc.0)
      (step l.work.walk i).forward amount;
  no_fewer : l.initial.steps ≤ l.steps;
  count : l.steps ≤ l.initial.steps + l.k * look_cost;
}
