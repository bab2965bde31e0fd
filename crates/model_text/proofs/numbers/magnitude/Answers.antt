use Rattle.std.proofs.Common.{◌≡◌, ◌-◌, ◌==◌, arith, sym, ◌∙◌, ap, false, length, replicate, take}
use Rattle.std.specs.Prelude.{◌++◌}
use Rattle.std.proofs.lemmas.Bool.Decides.{nat_tests}
use Rattle.model_text.specs.NearNumbers.{near_units}
use Rattle.model_text.proofs.UnitLemmas.{no-front, wrong-end, parts-read}
use Rattle.std.proofs.lemmas.List.{take-replicate}
use Rattle.model_text.proofs.numbers.magnitude.Goals as goal

pub returns-then-is_empty-clause-is : goal.returns-then-is_empty-clause-is
returns-then-is_empty-clause-is c =
    let none : length c.cut.result.0.now ≡ 0 = grind (arith, nat_tests) in
    sym (no-front c.args.decimals c.args.word.now c.cut.result.0.now c.cut.result.1.now c.cut.ensures.before c.cut.ensures.after none)

pub returns-then-has_wrong_end-clause-is : goal.returns-then-has_wrong_end-clause-is
returns-then-has_wrong_end-clause-is c =
    sym (wrong-end c.args.decimals c.args.word.now c.cut.result.0.now c.cut.result.1.now c.cut.ensures.before c.cut.ensures.after (sym c.has_wrong_end.ensures ∙ c.if-has_wrong_end.true))

pub returns-clause-is : goal.returns-clause-is
returns-clause-is c =
    let whole = c.cut.result.0.now in
    let further = c.cut.result.1.now in
    let some : (length whole == 0) ≡ false = grind (arith, nat_tests) in
    let right = sym c.has_wrong_end.ensures ∙ c.if-has_wrong_end.false in
    let count = c.args.decimals - length further in
    let zeros : take count (replicate 12 48) ≡ replicate count 48 = take-replicate count 12 48 (omega arith) in
    c.units.ensures.is ∙ ap (λ rest. near_units (whole ++ further ++ rest)) zeros
    ∙ sym (parts-read c.args.decimals c.args.word.now whole further c.cut.ensures.before c.cut.ensures.after some right)
