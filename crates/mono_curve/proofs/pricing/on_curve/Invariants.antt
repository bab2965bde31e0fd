use Rattle.std.proofs.Common.{ℕ, ◌<◌}
use Rattle.theory.specs.OnCurve.{FitsPiece}
use Rattle.theory.specs.PieceAt.{piece_at}
use Rattle.mono_curve.proofs.pricing.on_curve.Given as goal

abbrev pub invariant-loop-k : goal.invariant-loop-k
invariant-loop-k g l = (j : ℕ) → j < l.k → FitsPiece 1 l.x l.v (piece_at (g.C.Listed.listing l.curve).items j)
