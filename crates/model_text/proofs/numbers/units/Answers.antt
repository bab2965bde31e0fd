use Rattle.std.proofs.Common.{rules, ◌≡◌, sym, ◌∙◌, ap, if◌then◌else◌, Some, None}
use Rattle.std.specs.Str.{all_ascii_digits}
use Rattle.model_text.specs.NearNumbers.{near_after}
use Rattle.model_text.proofs.UnitLemmas.{whole-fails, further-fails, all-told, part-failed, part-told}
use Rattle.model_text.proofs.numbers.units.Goals as goal

pub returns-in_err-value-clause-is : goal.returns-in_err-value-clause-is
returns-in_err-value-clause-is c =
    let fails = part-failed c.args.whole.now 0 c.more_digits.result c.more_digits.ensures.is c.in_err-value.was in
    let none : c.from_residual.result ≡ None = search rules in
    none ∙ sym (whole-fails c.args.whole.now c.args.further.now c.args.zeros.now fails)

pub returns-in_err-value-2-clause-is : goal.returns-in_err-value-2-clause-is
returns-in_err-value-2-clause-is c =
    let told = part-told c.args.whole.now 0 c.in_ok-value.value c.more_digits.result c.more_digits.ensures.is c.in_ok-value.was in
    let fails = part-failed c.args.further.now c.in_ok-value.value c.more_digits-2.result c.more_digits-2.ensures.is c.in_err-value-2.was in
    let none : c.from_residual-in_err-value-2.result ≡ None = search rules in
    none ∙ sym (further-fails c.args.whole.now c.args.further.now c.args.zeros.now told.0 fails)

pub returns-clause-is : goal.returns-clause-is
returns-clause-is c =
    let whole = c.args.whole.now in
    let further = c.args.further.now in
    let zeros = c.args.zeros.now in
    let told = part-told whole 0 c.in_ok-value.value c.more_digits.result c.more_digits.ensures.is c.in_ok-value.was in
    let also = part-told further c.in_ok-value.value c.in_ok-value-2.value c.more_digits-2.result c.more_digits-2.ensures.is c.in_ok-value-2.was in
    let both = also.1 ∙ ap (λ n. near_after n further) told.1 in
    c.more_digits-3.ensures.is ∙ ap (λ n. if all_ascii_digits zeros then Some (near_after n zeros) else None) both
    ∙ sym (all-told whole further zeros told.0 also.0)
