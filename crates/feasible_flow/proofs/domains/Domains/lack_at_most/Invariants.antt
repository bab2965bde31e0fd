use Rattle.std.proofs.Common.{◌≡◌, ◌+◌, ◌*◌, ◌≤◌}
use Rattle.feasible_flow.specs.Violations.{total_violation}
use Rattle.feasible_flow.specs.UnderWay.{look_cost}
use Rattle.feasible_flow.specs.ByLevels.{levels_of}
use Rattle.feasible_flow.proofs.domains.Domains.lack_at_most.Given as goal

abbrev pub invariant-loop-j : goal.invariant-loop-j
invariant-loop-j g l = record {
  rest : l.left + total_violation l.j (levels_of g.C.Monotone.items l.self.level l.self.curves.now) l.work.flows ≡ l.fn.amount;
  no_fewer : l.initial.steps ≤ l.steps;
  count : l.steps ≤ l.initial.steps + l.j * look_cost;
}
