use Rattle.transport_front.proofs.TextLaws as law
use Rattle.transport_front.proofs.text_laws.one_fault.Goals as goal

pub returns : goal.returns
returns c = law.one_fault
