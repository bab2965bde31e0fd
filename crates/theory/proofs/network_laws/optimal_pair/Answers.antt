use Rattle.theory.proofs.Duality as law
use Rattle.theory.proofs.network_laws.optimal_pair.Goals as goal

pub returns : goal.returns
returns c = law.optimal_pair
