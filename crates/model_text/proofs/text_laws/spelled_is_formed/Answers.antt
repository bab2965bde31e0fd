use Rattle.model_text.proofs.SpelledForm.{spelled_is_formed}
use Rattle.model_text.proofs.text_laws.spelled_is_formed.Goals as goal

pub returns : goal.returns
returns c = spelled_is_formed
