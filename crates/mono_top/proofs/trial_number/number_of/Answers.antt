use Rattle.std.proofs.Common.{◌∙◌}
use Rattle.mono_top.proofs.NumberLemmas.{parsed}
use Rattle.mono_top.proofs.trial_number.number_of.Goals as goal

pub returns : goal.returns
returns c = c.ok.ensures.value ∙ parsed c.args.digits.now c.parse.result c.parse.ensures.value.0 c.requires
