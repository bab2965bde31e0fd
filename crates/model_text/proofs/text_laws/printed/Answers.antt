use Rattle.model_text.proofs.PrintedModel.{printed}
use Rattle.model_text.proofs.text_laws.printed.Goals as goal

pub returns : goal.returns
returns c = printed
