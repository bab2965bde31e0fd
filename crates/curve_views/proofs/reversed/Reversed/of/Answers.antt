use Rattle.theory.proofs.ReversedList.{reversed-twice}
use Rattle.curve_views.proofs.reversed.Reversed.of.Goals as goal

pub returns-clause-twice : goal.returns-clause-twice
returns-clause-twice g c = reversed-twice
