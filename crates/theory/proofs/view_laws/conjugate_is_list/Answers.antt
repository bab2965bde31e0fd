use Rattle.theory.proofs.ConjugateList.{conjugate-is_list}
use Rattle.theory.proofs.view_laws.conjugate_is_list.Goals as goal

pub returns : goal.returns
returns c = conjugate-is_list
