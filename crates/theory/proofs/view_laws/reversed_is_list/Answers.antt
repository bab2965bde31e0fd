use Rattle.theory.proofs.ReversedList.{reversed-is_list}
use Rattle.theory.proofs.view_laws.reversed_is_list.Goals as goal

pub returns : goal.returns
returns c = reversed-is_list
