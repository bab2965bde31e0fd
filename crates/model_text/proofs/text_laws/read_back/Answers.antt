use Rattle.model_text.proofs.PrintedModel.{read_back}
use Rattle.model_text.proofs.text_laws.read_back.Goals as goal

pub returns : goal.returns
returns c = read_back
