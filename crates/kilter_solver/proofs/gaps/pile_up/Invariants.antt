use Rattle.kilter_solver.specs.Gaps.{AreHeights}
use Rattle.kilter_solver.proofs.gaps.pile_up.Given as goal

abbrev pub invariant-loop-p : goal.invariant-loop-p
invariant-loop-p l = AreHeights l.p l.most l.values l.heights
