use Rattle.path_cut.proofs.OpenPath as law
use Rattle.path_cut.proofs.laws.open_path.Goals as goal

pub returns : goal.returns
returns c = law.open-path
