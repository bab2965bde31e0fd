use Rattle.theory.proofs.Whole.{whole_tension}
use Rattle.theory.proofs.curve_laws.whole_tension.Goals as goal

pub returns : goal.returns
returns c = whole_tension
