use Rattle.std.proofs.Common.{◌+◌, ◌*◌, ◌≤◌}
use Rattle.kilter_solver.specs.Clamping.{IsClampedBelow}
use Rattle.kilter_solver.proofs.spread.Routing.clamp.Given as goal

abbrev pub invariant-loop-j : goal.invariant-loop-j
invariant-loop-j g l = record {
  clamped : IsClampedBelow l.j l.self.net.now (g.B.Bundle.lists l.self.bundle.now) l.fn.work l.work;
  no_fewer : l.initial.steps ≤ l.steps;
  count : l.steps ≤ l.initial.steps + l.j * g.B.Bundle.weight l.self.bundle.now;
}
