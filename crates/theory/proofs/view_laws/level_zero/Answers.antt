use Rattle.theory.proofs.Level.{level-zero}
use Rattle.theory.proofs.view_laws.level_zero.Goals as goal

pub returns : goal.returns
returns c = level-zero
