use Rattle.std.proofs.Common.{ℕ, ◌+◌, ◌*◌, ◌-◌, ◌≤◌, pos, ◌≤ℤ◌, IsTrue}
use Rattle.theory.specs.Cut.{holds}
use Rattle.kilter_solver.specs.Excess.{excess}
use Rattle.kilter_solver.specs.Ready.{Ready}
use Rattle.kilter_solver.specs.Marks.{count_of, marked_total}
use Rattle.kilter_solver.specs.Spread.{Spread, IsSameState}
use Rattle.kilter_solver.specs.Heap.{IsWaiting}
use Rattle.kilter_solver.proofs.Settling.{degree}
use Rattle.kilter_solver.proofs.spread.Routing.spread.Given as goal

abbrev pub invariant-loop-node : goal.invariant-loop-node
invariant-loop-node g l = record {
  ready : Ready l.self.net.now (g.B.Bundle.lists l.self.bundle.now) l.work;
  spread : Spread l.self.net.now (g.B.Bundle.lists l.self.bundle.now) l.source.0 l.self.net.now.nodes l.work;
  queue : IsWaiting l.work;
  state : IsSameState l.fn.work l.work;
  none_lacks : (i : ℕ) → IsTrue (holds l.work.reached i) → pos 0 ≤ℤ excess l.work i;
  no_fewer : l.fn.steps ≤ l.steps;
  count : l.steps ≤ l.fn.steps + marked_total l.self.net.now.nodes (degree l.self.net.now) l.work.reached * g.B.Bundle.weight l.self.bundle.now;
}

abbrev pub decreases-loop-node : goal.decreases-loop-node
decreases-loop-node g l = l.self.net.now.nodes - count_of l.self.net.now.nodes l.work.reached
