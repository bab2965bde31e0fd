use Rattle.theory.proofs.Scaling.{scaling}
use Rattle.theory.proofs.curve_laws.scaling.Goals as goal

pub returns : goal.returns
returns c = scaling
