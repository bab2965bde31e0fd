use Rattle.std.proofs.Common.{◌≡◌, false, sym, ap, ◌∙◌, Err, rules, arith}
use Rattle.std.proofs.lemmas.Bool.{false≢true}
use Rattle.std.proofs.lemmas.Grind.{common_steps}
use Rattle.model_text.specs.Names.{is_name}
use Rattle.trial_model.specs.Trial.{numbered}
use Rattle.trial_model.proofs.NameLemmas.{numbered-named}
use Rattle.trial_model.proofs.entries.name_at.Goals as goal

-- the bytes are a name
pub unreachable-requires : goal.unreachable-requires
unreachable-requires c =
    let bytes : c.as_slice.result.now ≡ numbered c.args.letter c.args.position = first_of (search rules, grind (arith, common_steps)) in
    let no_name : is_name c.as_slice.result.now ≡ false = c.of.ensures.form.0 (c.in-Err-Form.is ∙ ap Err c.in-Err-Form.field-0-is) in
    false≢true (sym no_name ∙ ap is_name bytes ∙ numbered-named c.args.letter c.args.position c.requires.letter c.requires.position)
