use Rattle.std.proofs.Common.{rules, refl}
use Rattle.model_text.specs.ModelText.{is_loop}
use Rattle.model_text.proofs.entry.is_loop.Goals as goal

pub returns-in-Node : goal.returns-in-Node
unfolding is_loop
returns-in-Node c =
    let node = rw c.in-Node.is at c.args.line.now.parts.node in
    let arc = rw c.in-Node.is at c.args.line.now.parts.arc in
    rw arc refl

pub returns-in-Arc : goal.returns-in-Arc
unfolding is_loop
returns-in-Arc c =
    let node = rw c.in-Arc.is at c.args.line.now.parts.node in
    let arc = rw c.in-Arc.is at c.args.line.now.parts.arc in
    rw arc (search rules)
