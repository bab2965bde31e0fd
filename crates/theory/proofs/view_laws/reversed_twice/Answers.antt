use Rattle.theory.proofs.ReversedList.{reversed-twice}
use Rattle.theory.proofs.view_laws.reversed_twice.Goals as goal

pub returns : goal.returns
returns c = reversed-twice
