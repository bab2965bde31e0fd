use Rattle.theory.proofs.ConjugateList.{conjugate-pair}
use Rattle.theory.proofs.view_laws.conjugate_pair.Goals as goal

pub returns : goal.returns
returns c = conjugate-pair
