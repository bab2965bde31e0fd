use Rattle.std.proofs.Common.{◌≡◌, ◌++◌}
use Rattle.cert_text.specs.CertificateText.{texts_below}
use Rattle.flow_pieces.specs.Pieces.{piece_at}
use Rattle.mono_top.specs.ShowsPieces.{piece_text}
use Rattle.mono_top.proofs.pieces.append_pieces.Given as goal

abbrev pub invariant-loop-k : goal.invariant-loop-k
invariant-loop-k l = (l.out.items ≡ l.initial.out.items ++ texts_below l.k (λ k. piece_text l.model.scale l.model.entries (piece_at l.list k)))
