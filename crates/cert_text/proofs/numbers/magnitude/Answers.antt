use Rattle.std.proofs.Common.{◌<◌, ◌^◌, ◌∙◌, sym, arith}
use Rattle.std.proofs.lemmas.Bool.{both_ways}
use Rattle.cert_text.proofs.Digits.{digit_there, front_below, whole_value, one_more}
use Rattle.cert_text.proofs.numbers.magnitude.Goals as goal
use Rattle.cert_text.proofs.numbers.magnitude.Goals.{then-value-most-via-then-value-most, then-value-most-via-else-value-most+then-not-is_ascii_digit}

pub returns-then-value-most-clause-found : goal.returns-then-value-most-clause-found
returns-then-value-most-clause-found c = λ decimals n within is.
    let small : n < 10 ^ 64 = omega arith in
    elim c.then-value-most.branch [
      | then-value-most-via-then-value-most w ↦ absurd (omega (arith, front_below c.args.digits.now decimals n small is c.loop-digit.digit-index))
      | then-value-most-via-else-value-most+then-not-is_ascii_digit w ↦
          absurd (both_ways _ w.if-not-is_ascii_digit.true (w.is_ascii_digit.ensures.value ∙ digit_there c.args.digits.now decimals n small is c.loop-digit.digit-index c.loop-digit-test.true c.if-digit-eq46.false))
    ]

pub loop-digit-preserved : goal.loop-digit-preserved
loop-digit-preserved c =
    let is_digit = sym c.is_ascii_digit.ensures.value ∙ c.if-not-is_ascii_digit.false in
    let more = one_more c.args.digits.now c.loop-digit.digit-index c.loop-digit.value c.loop-digit-test.true c.loop-digit.invariant.0 c.if-digit-eq46.false is_digit in
    (rw c.from.ensures more, omega arith)

pub returns-clause-found : goal.returns-clause-found
returns-clause-found c = λ decimals n within is.
    let small : n < 10 ^ 64 = omega arith in
    omega (arith, whole_value c.args.digits.now decimals n small is c.loop-digit.digit-index c.loop-digit-test.false)
