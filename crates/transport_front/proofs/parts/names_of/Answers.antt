use Rattle.transport_front.proofs.PartLemmas.{names-are}
use Rattle.transport_front.proofs.parts.names_of.Goals as goal

pub returns-in-len1-up : goal.returns-in-len1-up
returns-in-len1-up c = rw c.min.ensures (names-are c.args.words.now c.args.count)
