use Rattle.std.proofs.Common.{◌∙◌}
use Rattle.model_text.proofs.ReadLemmas.{told_text}
use Rattle.warm_solve.proofs.reading.is_text.Goals as goal

pub returns : goal.returns
returns c = c.is_ok.ensures.value ∙ told_text c.args.line.now _ _ c.from_utf8.result c.from_utf8.ensures.cases
