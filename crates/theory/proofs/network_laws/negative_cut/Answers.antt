use Rattle.theory.proofs.Refusals as law
use Rattle.theory.proofs.network_laws.negative_cut.Goals as goal

pub returns : goal.returns
returns c = law.negative_cut
