use Rattle.kilter_solver.specs.Clamping.{IsClearedBelow}
use Rattle.kilter_solver.proofs.balancing.begin.Given as goal

abbrev pub invariant-loop-i : goal.invariant-loop-i
invariant-loop-i l = record { cleared : IsClearedBelow l.i l.initial.work l.work }
