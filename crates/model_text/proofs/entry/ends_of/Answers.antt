use Rattle.std.proofs.Common.{◌≡◌, rules, sym, ◌∙◌, true, None, Some}
use Rattle.std.specs.Prelude.{is_none}
use Rattle.model_text.specs.Model.{node_names, place_of}
use Rattle.model_text.specs.ModelText.{word_at}
use Rattle.model_text.specs.LineParts.{texts}
use Rattle.model_text.proofs.SoundLines.{node_known, tail_unknown, head_unknown, ends_known}
use Rattle.model_text.proofs.entry.ends_of.Goals as goal

pub returns-in-Node-clause-unknown : goal.returns-in-Node-clause-unknown
returns-in-Node-clause-unknown c =
    let arc = rw c.in-Node.is at c.args.line.now.parts.arc in
    sym (node_known c.args.model.now.entries (texts c.args.line.now.words.now) arc)

pub returns-in_err-from-in-Arc-clause-unknown : goal.returns-in_err-from-in-Arc-clause-unknown
returns-in_err-from-in-Arc-clause-unknown c =
    let m = c.args.model.now.entries in
    let words = texts c.args.line.now.words.now in
    let arc = rw c.in-Arc.is at c.args.line.now.parts.arc in
    let none : place_of (node_names m) (word_at words 2) ≡ None = search rules in
    let nothing : is_none c.from_residual.result ≡ true = search rules in
    nothing ∙ sym (tail_unknown m words arc none)

pub returns-in_err-to-in-Arc-clause-unknown : goal.returns-in_err-to-in-Arc-clause-unknown
returns-in_err-to-in-Arc-clause-unknown c =
    let m = c.args.model.now.entries in
    let words = texts c.args.line.now.words.now in
    let arc = rw c.in-Arc.is at c.args.line.now.parts.arc in
    let none : place_of (node_names m) (word_at words 3) ≡ None = search rules in
    let nothing : is_none c.from_residual-in_err-to-in-Arc.result ≡ true = search rules in
    nothing ∙ sym (head_unknown m words arc none)

pub returns-in_ok-to-in-Arc-clause-unknown : goal.returns-in_ok-to-in-Arc-clause-unknown
returns-in_ok-to-in-Arc-clause-unknown c =
    let m = c.args.model.now.entries in
    let words = texts c.args.line.now.words.now in
    let arc = rw c.in-Arc.is at c.args.line.now.parts.arc in
    let tail : place_of (node_names m) (word_at words 2) ≡ Some c.in_ok-from-in-Arc.from = search rules in
    let head : place_of (node_names m) (word_at words 3) ≡ Some c.in_ok-to-in-Arc.to = search rules in
    sym (ends_known m words arc tail head)
