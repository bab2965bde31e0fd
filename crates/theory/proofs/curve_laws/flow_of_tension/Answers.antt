use Rattle.theory.proofs.Pairs.{flow_of_tension}
use Rattle.theory.proofs.curve_laws.flow_of_tension.Goals as goal

pub returns : goal.returns
returns c = flow_of_tension
