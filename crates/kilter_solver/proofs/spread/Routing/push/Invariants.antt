use Rattle.kilter_solver.proofs.Pushing.{IsPushing}
use Rattle.kilter_solver.proofs.spread.Routing.push.Given as goal

abbrev pub invariant-loop : goal.invariant-loop
invariant-loop g l = record {
  pushing : IsPushing l.self.net.now (g.B.Bundle.lists l.self.bundle.now) l.amount l.source.0 l.fn.target.0 l.fn.work l.work l.node.0 l.counter;
}
