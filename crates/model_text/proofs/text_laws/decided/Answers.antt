use Rattle.model_text.proofs.TextLaws.{decided}
use Rattle.model_text.proofs.text_laws.decided.Goals as goal

pub returns : goal.returns
returns c = decided
