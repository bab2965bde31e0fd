use Rattle.mono_curve.proofs.PieceSlopes.{slopes_of_pieces}
use Rattle.mono_curve.proofs.reading_laws.slopes_of_pieces.Goals as goal

pub returns : goal.returns
returns c = slopes_of_pieces
