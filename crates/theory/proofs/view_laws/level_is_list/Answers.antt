use Rattle.theory.proofs.Level.{level-is_list}
use Rattle.theory.proofs.view_laws.level_is_list.Goals as goal

pub returns : goal.returns
returns c = level-is_list
