use Rattle.model_text.proofs.TextLaws.{one_model}
use Rattle.model_text.proofs.text_laws.one_model.Goals as goal

pub returns : goal.returns
returns c = one_model
