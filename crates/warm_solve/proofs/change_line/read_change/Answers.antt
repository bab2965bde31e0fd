-- The keyword tells a node's line from an arc's; with neither the line is refused.
use Rattle.std.proofs.Common.{sym, ◌∙◌, ap, codes, length, true, false}
use Rattle.std.specs.Str.{bytes_eq}
use Rattle.model_text.specs.LineParts.{texts}
use Rattle.model_text.proofs.ReadLemmas.{passes-same}
use Rattle.warm_solve.specs.ChangesText.{entry_tests, named_tests}
use Rattle.warm_solve.proofs.ChangesLines.{of_node, of_arc, of_none, node_changes, arc_changes, node_line-is, arc_line-is}
use Rattle.warm_solve.proofs.change_line.read_change.Goals as goal

pub returns-then-are_same-clause-tests : goal.returns-then-are_same-clause-tests
returns-then-are_same-clause-tests c =
    let words = texts c.args.words.now in
    let s = c.args.m.now.scale in
    let m = c.args.m.now.entries in
    let count = length c.args.changes.now in
    let node = node_line-is words ∙ ap (λ w. bytes_eq w (codes "node")) (sym c.word-keyword.ensures) ∙ sym c.are_same.ensures in
    passes-same (entry_tests s m count words) (named_tests s m true count words) (of_node s m count words (node ∙ c.if-are_same.true)) c.read_named.result c.read_named.ensures.tests

pub returns-then-are_same-clause-added : goal.returns-then-are_same-clause-added
returns-then-are_same-clause-added c =
    let words = texts c.args.words.now in
    let s = c.args.m.now.scale in
    let m = c.args.m.now.entries in
    let node = node_line-is words ∙ ap (λ w. bytes_eq w (codes "node")) (sym c.word-keyword.ensures) ∙ sym c.are_same.ensures in
    rw (node_changes s m c.args.line words (node ∙ c.if-are_same.true)) c.read_named.ensures.added

pub returns-then-are_same-2-clause-tests : goal.returns-then-are_same-2-clause-tests
returns-then-are_same-2-clause-tests c =
    let words = texts c.args.words.now in
    let s = c.args.m.now.scale in
    let m = c.args.m.now.entries in
    let count = length c.args.changes.now in
    let node = node_line-is words ∙ ap (λ w. bytes_eq w (codes "node")) (sym c.word-keyword.ensures) ∙ sym c.are_same.ensures in
    let arc = arc_line-is words ∙ ap (λ w. bytes_eq w (codes "arc")) (sym c.word-keyword.ensures) ∙ sym c.are_same-else-are_same.ensures in
    passes-same (entry_tests s m count words) (named_tests s m false count words) (of_arc s m count words (node ∙ c.if-are_same.false) (arc ∙ c.if-are_same-2.true))
    c.read_named-then-are_same-2.result c.read_named-then-are_same-2.ensures.tests

pub returns-then-are_same-2-clause-added : goal.returns-then-are_same-2-clause-added
returns-then-are_same-2-clause-added c =
    let words = texts c.args.words.now in
    let s = c.args.m.now.scale in
    let m = c.args.m.now.entries in
    let node = node_line-is words ∙ ap (λ w. bytes_eq w (codes "node")) (sym c.word-keyword.ensures) ∙ sym c.are_same.ensures in
    let arc = arc_line-is words ∙ ap (λ w. bytes_eq w (codes "arc")) (sym c.word-keyword.ensures) ∙ sym c.are_same-else-are_same.ensures in
    rw (arc_changes s m c.args.line words (node ∙ c.if-are_same.false) (arc ∙ c.if-are_same-2.true)) c.read_named-then-are_same-2.ensures.added

pub returns-else-are_same-2-clause-tests : goal.returns-else-are_same-2-clause-tests
returns-else-are_same-2-clause-tests c =
    let words = texts c.args.words.now in
    let s = c.args.m.now.scale in
    let m = c.args.m.now.entries in
    let count = length c.args.changes.now in
    let node = node_line-is words ∙ ap (λ w. bytes_eq w (codes "node")) (sym c.word-keyword.ensures) ∙ sym c.are_same.ensures in
    let arc = arc_line-is words ∙ ap (λ w. bytes_eq w (codes "arc")) (sym c.word-keyword.ensures) ∙ sym c.are_same-else-are_same.ensures in
    of_none s m count words (node ∙ c.if-are_same.false) (arc ∙ c.if-are_same-2.false)
