use Rattle.model_text.proofs.TextLaws.{one_fault}
use Rattle.model_text.proofs.text_laws.one_fault.Goals as goal

pub returns : goal.returns
returns c = one_fault
