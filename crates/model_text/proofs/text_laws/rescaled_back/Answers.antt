use Rattle.model_text.proofs.RescaledBack.{rescaled_back}
use Rattle.model_text.proofs.text_laws.rescaled_back.Goals as goal

pub returns : goal.returns
returns c = rescaled_back
