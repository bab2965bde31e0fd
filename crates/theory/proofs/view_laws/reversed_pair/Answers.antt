use Rattle.theory.proofs.ReversedPairs.{reversed-pair}
use Rattle.theory.proofs.view_laws.reversed_pair.Goals as goal

pub returns : goal.returns
returns c = reversed-pair
