use Rattle.theory.proofs.Equality.{fenchel_equality}
use Rattle.theory.proofs.curve_laws.fenchel_equality.Goals as goal

pub returns : goal.returns
returns c = fenchel_equality
