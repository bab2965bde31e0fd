use Rattle.feasible_tension.proofs.Shifting.{IsShifting}
use Rattle.feasible_tension.proofs.passing.shift.Given as goal

abbrev pub invariant-loop-i : goal.invariant-loop-i
invariant-loop-i l = IsShifting l.fn.work l.work l.i
