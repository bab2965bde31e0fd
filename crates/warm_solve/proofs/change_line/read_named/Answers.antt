-- The part behind the name is read at the model's scale, and what it is refused for is the first fault of the line.
use Rattle.std.proofs.Common.{◌≡◌, rules, sym, ◌∙◌, ap, length, true, false, refl, Err, List, [], ◌∷◌}
use Rattle.model_text.specs.declared.fault.FaultWord.TheVariants.{Name, Unknown}
use Rattle.model_text.specs.LineParts.{texts}
use Rattle.model_text.specs.ModelText.{word_at}
use Rattle.model_text.specs.Names.{is_name}
use Rattle.warm_solve.specs.ChangesText.{curve_tests, part_of, has_all, lacks_name, is_unknown}
use Rattle.warm_solve.proofs.ChangesLines.{refused-behind}
use Rattle.warm_solve.proofs.change_line.read_named.Goals as goal

pub returns-in_err-curve-clause-tests : goal.returns-in_err-curve-clause-tests
returns-in_err-curve-clause-tests c =
    let words = texts c.args.words.now in
    let m = c.args.m.now.entries in
    let tests = curve_tests c.args.m.now.scale c.args.node (has_all (length c.args.changes.now)) (part_of words) in
    let is : is_name (word_at words 1) ≡ true = ap is_name (sym c.word-name.ensures) ∙ sym c.is_name.ensures ∙ c.if-not-is_name.false in
    let named : lacks_name words ≡ false = rw is refl in
    let same : c.from_residual.result ≡ Err c.in_err-curve.field-0.0 = search rules in
    let refused = rw (c.scale.ensures, c.is_full.ensures, c.part_of.ensures) at c.curve_of.ensures.tests in
    refused-behind (lacks_name words) Name tests ((is_unknown m c.args.node words, Unknown) ∷ []) c.in_err-curve.field-0.0 c.curve_of.result c.from_residual.result
    c.in_err-curve.was same named refused
