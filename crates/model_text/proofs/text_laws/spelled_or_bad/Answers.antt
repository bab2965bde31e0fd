use Rattle.model_text.proofs.TextLaws.{spelled_or_bad}
use Rattle.model_text.proofs.text_laws.spelled_or_bad.Goals as goal

pub returns : goal.returns
returns c = spelled_or_bad
