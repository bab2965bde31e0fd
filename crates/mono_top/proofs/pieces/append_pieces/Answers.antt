use Rattle.std.proofs.Common.{refl}
use Rattle.flow_pieces.specs.Pieces.{piece_at}
use Rattle.cert_text.proofs.Texts.{appended}
use Rattle.mono_top.specs.ShowsPieces.{piece_text}
use Rattle.mono_top.proofs.pieces.append_pieces.Goals as goal

pub loop-k-preserved : goal.loop-k-preserved
loop-k-preserved c =
    appended c.loop-k.k (λ k. piece_text c.args.model.now.scale c.args.model.now.entries (piece_at c.args.list.now k)) _ _ _ _ c.loop-k.invariant c.in_ok-append_piece.ensures refl
