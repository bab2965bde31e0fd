use Rattle.std.proofs.Common.{rules}
use Rattle.model_text.specs.ModelText.{is_twice}
use Rattle.model_text.proofs.entry.is_twice.Goals as goal

pub returns-in-Node : goal.returns-in-Node
unfolding is_twice
returns-in-Node c =
    let node = rw c.in-Node.is at c.args.line.now.parts.node in
    let arc = rw c.in-Node.is at c.args.line.now.parts.arc in
    rw node (search rules)

pub returns-in-Arc : goal.returns-in-Arc
unfolding is_twice
returns-in-Arc c =
    let node = rw c.in-Arc.is at c.args.line.now.parts.node in
    let arc = rw c.in-Arc.is at c.args.line.now.parts.arc in
    rw node (search rules)
