use Rattle.path_cut.proofs.Lifting as law
use Rattle.path_cut.proofs.laws.open_cut.Goals as goal

pub returns : goal.returns
returns c = law.open-cut
