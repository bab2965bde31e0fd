use Rattle.theory.proofs.ZeroCost.{zero_cost-is_list}
use Rattle.theory.proofs.view_laws.zero_cost_is_list.Goals as goal

pub returns : goal.returns
returns c = zero_cost-is_list
