use Rattle.kilter_solver.specs.Routing.{IsFallenBelow}
use Rattle.kilter_solver.proofs.routes.lower.Given as goal

abbrev pub invariant-loop-i : goal.invariant-loop-i
invariant-loop-i l = record { fallen : IsFallenBelow l.i l.bound l.fn.work l.work }
