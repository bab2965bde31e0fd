use Rattle.theory.proofs.ReversedCost.{cost-reversed}
use Rattle.theory.proofs.view_laws.reversed_cost.Goals as goal

pub returns : goal.returns
returns c = cost-reversed
