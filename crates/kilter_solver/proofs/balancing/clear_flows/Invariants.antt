use Rattle.kilter_solver.specs.Clamping.{IsCleared}
use Rattle.kilter_solver.proofs.balancing.clear_flows.Given as goal

abbrev pub invariant-loop-j : goal.invariant-loop-j
invariant-loop-j l = record { cleared : IsCleared l.j l.initial.work l.work }
