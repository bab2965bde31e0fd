use Rattle.std.proofs.Common.{arith}
use Rattle.std.proofs.lemmas.Bool.Decides.{nat_tests}
use Rattle.transport_front.proofs.PartLemmas.{lacks-is}
use Rattle.transport_front.proofs.parts.lacks_names.Goals as goal

pub returns-else-names-count : goal.returns-else-names-count
returns-else-names-count c =
    let is = lacks-is c.args.words.now c.names_of-names.result.now c.args.count c.names_of-names.ensures in grind (arith, nat_tests)
