use Rattle.theory.proofs.Unbounded.{unbounded}
use Rattle.theory.proofs.network_laws.unbounded.Goals as goal

pub returns : goal.returns
returns c = unbounded
