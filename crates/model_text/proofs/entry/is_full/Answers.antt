use Rattle.std.proofs.Common.{arith}
use Rattle.std.proofs.lemmas.Bool.Decides.{nat_tests}
use Rattle.model_text.specs.ModelText.{is_full}
use Rattle.model_text.proofs.entry.is_full.Goals as goal

pub returns-in-Node : goal.returns-in-Node
unfolding is_full
returns-in-Node c =
    let node = rw c.in-Node.is at c.args.line.now.parts.node in
    let arc = rw c.in-Node.is at c.args.line.now.parts.arc in
    grind (arith, nat_tests)

pub returns-in-Arc : goal.returns-in-Arc
unfolding is_full
returns-in-Arc c =
    let node = rw c.in-Arc.is at c.args.line.now.parts.node in
    let arc = rw c.in-Arc.is at c.args.line.now.parts.arc in
    grind (arith, nat_tests)
