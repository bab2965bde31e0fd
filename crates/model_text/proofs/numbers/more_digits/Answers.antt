use Rattle.std.proofs.Common.{arith, sym, ◌∙◌}
use Rattle.model_text.proofs.NearLemmas.{near-step, digits-drop}
use Rattle.model_text.proofs.numbers.more_digits.Goals as goal

pub loop-digit-preserved : goal.loop-digit-preserved
loop-digit-preserved c =
    let is_digit = sym c.is_ascii_digit.ensures.value ∙ c.if-not-is_ascii_digit.false in
    let at = c.loop-digit.digit-index in
    let digits = c.args.digits.now in
    record {
      most = omega arith;
      same_test = sym (rw is_digit at (digits-drop at digits (omega arith))) ∙ c.loop-digit.invariant.same_test;
      same_value =
          rw (c.min-value.ensures, c.from.ensures)
          (sym (near-step c.loop-digit.value at digits (omega arith) is_digit) ∙ c.loop-digit.invariant.same_value);
    }
