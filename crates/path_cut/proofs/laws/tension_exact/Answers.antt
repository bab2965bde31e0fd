use Rattle.path_cut.proofs.TensionBound as law
use Rattle.path_cut.proofs.laws.tension_exact.Goals as goal

pub returns : goal.returns
returns c = law.tension-exact
