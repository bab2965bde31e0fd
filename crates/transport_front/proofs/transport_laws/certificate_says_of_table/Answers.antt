use Rattle.transport_front.proofs.Law as law
use Rattle.transport_front.proofs.transport_laws.certificate_says_of_table.Goals as goal

pub returns : goal.returns
returns c = law.transport_law
