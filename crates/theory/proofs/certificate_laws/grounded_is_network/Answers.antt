use Rattle.theory.proofs.GroundedLaw as law
use Rattle.theory.proofs.certificate_laws.grounded_is_network.Goals as goal

pub returns : goal.returns
returns c = law.grounded_is_network
