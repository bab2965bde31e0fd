use Rattle.std.proofs.Common.{rules}
use Rattle.model_text.specs.Lines.{content}
use Rattle.model_text.proofs.words.content.Goals as goal

pub returns : goal.returns
unfolding content
returns c = search rules
