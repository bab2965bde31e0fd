use Rattle.theory.proofs.Duality as law
use Rattle.theory.proofs.network_laws.weak_duality.Goals as goal

pub returns : goal.returns
returns c = law.weak_duality
