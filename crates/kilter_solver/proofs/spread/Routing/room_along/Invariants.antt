use Rattle.kilter_solver.proofs.Rooms.{IsMeasured}
use Rattle.kilter_solver.proofs.spread.Routing.room_along.Given as goal

abbrev pub invariant-loop : goal.invariant-loop
invariant-loop g l = record {
  measured : IsMeasured l.self.net.now (g.B.Bundle.lists l.self.bundle.now) l.source.0 l.fn.target.0 l.work l.fn.most l.room l.node.0 l.counter
      (g.B.Bundle.weight l.self.bundle.now) l.fn.steps l.steps;
}
