use Rattle.std.proofs.Common.{ℕ, ◌+◌, ◌-◌, ◌*◌, ◌<◌, ◌≤◌, pos, ◌≤ℤ◌, length}
use Rattle.kilter_solver.specs.Excess.{excess, surpluses}
use Rattle.kilter_solver.specs.Routing.{IsBalancing, Routes}
use Rattle.kilter_solver.proofs.routes.route.Given as goal

abbrev pub invariant-loop-i : goal.invariant-loop-i
invariant-loop-i g l = record {
  balancing : IsBalancing l.net (g.B.Bundle.lists l.bundle) l.work;
  routes : Routes l.net l.initial.work l.work;
  sated : (k : ℕ) → k < l.i → excess l.work k ≤ℤ pos 0;
  within : l.i ≤ l.net.nodes;
  no_fewer : l.initial.steps ≤ l.steps;
  count : l.steps + 3 * (length l.net.arcs * g.B.Bundle.weight l.bundle) * surpluses l.net.nodes (excess l.work)
      ≤ l.initial.steps + 3 * (length l.net.arcs * g.B.Bundle.weight l.bundle) * surpluses l.net.nodes (excess l.initial.work);
}

abbrev pub decreases-loop-i : goal.decreases-loop-i
decreases-loop-i g l = surpluses l.net.nodes (excess l.work) + (l.net.nodes - l.i)
