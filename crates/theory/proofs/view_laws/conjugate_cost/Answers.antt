use Rattle.theory.proofs.ConjugateCost.{cost-conjugate}
use Rattle.theory.proofs.view_laws.conjugate_cost.Goals as goal

pub returns : goal.returns
returns c = cost-conjugate
