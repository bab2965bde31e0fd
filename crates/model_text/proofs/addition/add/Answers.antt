-- The line passed the tests, so its name is free and there is room; the ends that were found are those that it names.
use Rattle.std.proofs.Common.{sym, ◌∙◌}
use Rattle.model_text.specs.LineParts.{texts}
use Rattle.model_text.proofs.SoundLines.{passes_all, node_free, arc_free, adds_node, adds_arc}
use Rattle.model_text.proofs.addition.add.Goals as goal

pub name_of-requires : goal.name_of-requires
name_of-requires c = (passes_all c.args.model.now.scale c.args.model.now.entries (texts c.args.line.now.words.now) c.requires.passed).alone.names

pub push_node-requires-clause-free : goal.push_node-requires-clause-free
push_node-requires-clause-free c =
    let m = c.args.model.now.entries in
    let words = texts c.args.line.now.words.now in
    let node = rw c.in-Node.is at c.args.line.now.parts.node in
    let free = node_free c.args.model.now.scale m words node (passes_all c.args.model.now.scale m words c.requires.passed).together in
    rw c.in_ok-name.ensures free

pub push_arc-requires-clause-free : goal.push_arc-requires-clause-free
push_arc-requires-clause-free c =
    let m = c.args.model.now.entries in
    let words = texts c.args.line.now.words.now in
    let node = rw c.in-Arc.is at c.args.line.now.parts.node in
    let arc = rw c.in-Arc.is at c.args.line.now.parts.arc in
    let free = arc_free c.args.model.now.scale m words c.args.ends.0 c.args.ends.1 node arc (passes_all c.args.model.now.scale m words c.requires.passed).together (c.requires.ends.tail arc) (c.requires.ends.head arc) in
    rw c.in_ok-name.ensures free

pub returns-in_ok-push_node-in-Node-clause-added : goal.returns-in_ok-push_node-in-Node-clause-added
returns-in_ok-push_node-in-Node-clause-added c =
    let words = texts c.args.line.now.words.now in
    let node = rw c.in-Node.is at c.args.line.now.parts.node in
    c.in_ok-push_node-in-Node.ensures.added ∙ rw (c.in_ok-name.ensures, c.requires.curve) (sym (adds_node c.args.model.now.scale c.args.model.now.entries words node))

pub returns-in_ok-push_arc-in-Arc-clause-added : goal.returns-in_ok-push_arc-in-Arc-clause-added
returns-in_ok-push_arc-in-Arc-clause-added c =
    let words = texts c.args.line.now.words.now in
    let node = rw c.in-Arc.is at c.args.line.now.parts.node in
    let arc = rw c.in-Arc.is at c.args.line.now.parts.arc in
    c.in_ok-push_arc-in-Arc.ensures.added ∙ rw (c.in_ok-name.ensures, c.requires.curve)
    (sym (adds_arc c.args.model.now.scale c.args.model.now.entries words c.args.ends.0 c.args.ends.1 node arc (c.requires.ends.tail arc) (c.requires.ends.head arc)))
