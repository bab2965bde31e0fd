use Rattle.std.proofs.Common.{ℕ, ◌<◌, ◌≤◌, map}
use Rattle.theory.specs.Network.{«at», list_at}
use Rattle.theory.specs.Circuit.{step}
use Rattle.feasible_flow.specs.Violations.{HasRoom, movable_most}
use Rattle.path_cut.proofs.capacities.Capacities.room_along.Given as goal

abbrev pub invariant-loop-k : goal.invariant-loop-k
invariant-loop-k g l = record {
  some : 1 ≤ l.room;
  most : l.room ≤ movable_most;
  room : (i : ℕ) → i < l.k → (amount : ℕ) → amount ≤ l.room
      → HasRoom (list_at (map g.C.Monotone.items l.self.curves.now) (step l.work.walk i).arc.0) («at» l.work.flows (step l.work.walk i).arc.0)
      (step l.work.walk i).forward amount;
  no_fewer : l.initial.steps ≤ l.steps;
}
