use Rattle.std.proofs.Common.{◌<◌, ◌^◌, rules, arith, length, ap, ◌∙◌, Fits}
use mir.Syntax.{w128}
use Rattle.model_text.proofs.FixedNumbers.{decimal-is}
use Rattle.model_text.proofs.print.append_fixed.Goals as goal

pub append_pointed-requires-clause-some : goal.append_pointed-requires-clause-some
append_pointed-requires-clause-some c =
    let fits : Fits w128 c.unsigned_abs.result = search rules in
    let small : c.unsigned_abs.result < 10 ^ 64 = omega arith in
    omega (arith, (decimal-is c.unsigned_abs.result small).some, ap length (c.as_bytes-digits.ensures.value ∙ c.format.ensures.text))
