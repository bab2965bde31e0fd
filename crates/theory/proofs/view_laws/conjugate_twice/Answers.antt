use Rattle.theory.proofs.ConjugateCost.{conjugate-twice}
use Rattle.theory.proofs.view_laws.conjugate_twice.Goals as goal

pub returns : goal.returns
returns c = conjugate-twice
