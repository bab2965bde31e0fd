use Rattle.theory.proofs.Fenchel.{pairs_rise}
use Rattle.theory.proofs.curve_laws.pairs_rise.Goals as goal

pub returns : goal.returns
returns c = pairs_rise
