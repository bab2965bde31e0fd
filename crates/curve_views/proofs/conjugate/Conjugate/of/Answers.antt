use Rattle.theory.proofs.ConjugateCost.{conjugate-twice}
use Rattle.curve_views.proofs.conjugate.Conjugate.of.Goals as goal

pub returns-clause-twice : goal.returns-clause-twice
returns-clause-twice g c = conjugate-twice
