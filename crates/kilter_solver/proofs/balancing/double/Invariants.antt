use Rattle.kilter_solver.specs.Leveling.{IsDoubledBelow}
use Rattle.kilter_solver.proofs.balancing.double.Given as goal

abbrev pub invariant-loop-j : goal.invariant-loop-j
invariant-loop-j l = record { doubled : IsDoubledBelow l.j l.initial.work l.work }
