use Rattle.std.proofs.Common.{◌≡◌}
use Rattle.std.specs.Prelude.{pos}
use Rattle.theory.proofs.Bounds.{cost_up_to}
use Rattle.mono_curve.proofs.kept.cost_by_pieces.Given as goal

abbrev pub invariant-loop-k : goal.invariant-loop-k
invariant-loop-k l = l.total ≡ cost_up_to l.items (pos 0) l.rest l.x l.k
