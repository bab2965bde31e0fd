use Rattle.tucker_tableau.proofs.Cells.{less_is}
use Rattle.tucker_tableau.proofs.entries.less.Goals as goal

pub returns : goal.returns
returns c = less_is c.args.x c.args.factor c.args.y c.requires.number c.requires.factor c.requires.taken
