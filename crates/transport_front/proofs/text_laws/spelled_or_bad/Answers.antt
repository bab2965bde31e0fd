use Rattle.transport_front.proofs.TextLaws as law
use Rattle.transport_front.proofs.text_laws.spelled_or_bad.Goals as goal

pub returns : goal.returns
returns c = law.spelled_or_bad
