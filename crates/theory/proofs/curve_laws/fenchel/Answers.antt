use Rattle.theory.proofs.Fenchel.{fenchel}
use Rattle.theory.proofs.curve_laws.fenchel.Goals as goal

pub returns : goal.returns
returns c = fenchel
