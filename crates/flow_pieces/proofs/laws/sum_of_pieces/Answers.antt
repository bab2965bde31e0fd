use Rattle.flow_pieces.proofs.Falling.{sum_of_pieces}
use Rattle.flow_pieces.proofs.laws.sum_of_pieces.Goals as goal

pub returns : goal.returns
returns c = sum_of_pieces
