use Rattle.std.proofs.Common.{ap, ◌∙◌, ◌-◌, length, take, drop}
use Rattle.model_text.specs.LineParts.{texts}
use Rattle.transport_front.proofs.PartLemmas.{behind-is}
use Rattle.transport_front.proofs.parts.behind.Goals as goal

pub returns-in-len1-up : goal.returns-in-len1-up
returns-in-len1-up c = rw c.min.ensures (behind-is c.args.words.now c.args.count)
