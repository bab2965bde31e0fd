use Rattle.theory.proofs.Certificates as law
use Rattle.theory.proofs.certificate_laws.certificate_says.Goals as goal

pub returns : goal.returns
returns c = law.certificate_says
