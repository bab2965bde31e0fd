use Rattle.std.proofs.Common.{◌≡◌, ◌∙◌, ap, Err, true}
use Rattle.model_text.specs.Names.{is_name}
use Rattle.model_text.specs.LineParts.{texts}
use Rattle.model_text.proofs.SoundLines.{first_is_name}
use Rattle.model_text.proofs.addition.name_of.Goals as goal

pub unreachable-requires : goal.unreachable-requires
unreachable-requires c =
    let no = c.of.ensures.form.0 (c.in-Err-Form.is ∙ ap Err c.in-Err-Form.field-0-is) in
    let yes : is_name c.word.result.now ≡ true = ap is_name c.word.ensures ∙ first_is_name (texts c.args.line.now.words.now) c.requires in
    cc
