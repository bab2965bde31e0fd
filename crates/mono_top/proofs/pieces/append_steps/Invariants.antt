use Rattle.std.proofs.Common.{◌≡◌, ◌++◌}
use Rattle.flow_pieces.specs.Pieces.{piece_at}
use Rattle.mono_top.specs.ShowsPieces.{steps_text}
use Rattle.mono_top.proofs.pieces.append_steps.Given as goal

abbrev pub invariant-loop-i : goal.invariant-loop-i
invariant-loop-i l = (l.out.items ≡ l.initial.out.items ++ steps_text l.model.entries (piece_at l.list l.k) l.i)
