use Rattle.std.proofs.Common.{◌≡◌, length}
use Rattle.path_cut.proofs.drawing.gains_of.Given as goal

abbrev pub invariant-loop-j : goal.invariant-loop-j
invariant-loop-j l = length l.gains.items ≡ l.j
