use Rattle.theory.proofs.ReversedCost.{conjugate_cost-reversed}
use Rattle.theory.proofs.view_laws.reversed_conjugate_cost.Goals as goal

pub returns : goal.returns
returns c = conjugate_cost-reversed
