use Rattle.kilter_solver.specs.Clamping.{IsGroundedBelow}
use Rattle.kilter_solver.proofs.balancing.ground.Given as goal

abbrev pub invariant-loop-i : goal.invariant-loop-i
invariant-loop-i l = record { grounded : IsGroundedBelow l.i l.base l.initial.work l.work }
