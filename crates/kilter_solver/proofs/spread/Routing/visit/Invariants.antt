use Rattle.std.proofs.Common.{ℕ, ◌+◌, ◌*◌, ◌<◌, ◌≤◌}
use Rattle.theory.specs.Circuit.{step}
use Rattle.kilter_solver.specs.Ready.{Ready}
use Rattle.kilter_solver.specs.Spread.{Spread, IsLater, IsTried}
use Rattle.kilter_solver.specs.Heap.{IsWaiting}
use Rattle.kilter_solver.proofs.spread.Routing.visit.Given as goal

abbrev pub invariant-loop-step : goal.invariant-loop-step
invariant-loop-step g l = record {
  ready : Ready l.self.net.now (g.B.Bundle.lists l.self.bundle.now) l.work;
  spread : Spread l.self.net.now (g.B.Bundle.lists l.self.bundle.now) l.source.0 l.fn.node.0 l.work;
  queue : IsWaiting l.work;
  later : IsLater l.initial.work l.work;
  tried : (k : ℕ) → k < l.step-index → IsTried l.self.net.now (g.B.Bundle.lists l.self.bundle.now) l.work (step l.step-items k);
  no_fewer : l.initial.steps ≤ l.steps;
  count : l.steps ≤ l.initial.steps + l.step-index * g.B.Bundle.weight l.self.bundle.now;
}
