use Rattle.theory.proofs.Certificates as law
use Rattle.theory.proofs.certificate_laws.one_kind.Goals as goal

pub returns : goal.returns
returns c = law.one_kind
