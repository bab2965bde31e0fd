use Rattle.std.proofs.Common.{◌≡◌, get_or, arith}
use Rattle.cert_text.proofs.Digits.{negative_of}
use Rattle.cert_text.proofs.numbers.number_of.Goals as goal

pub returns-in-45-clause-found : goal.returns-in-45-clause-found
returns-in-45-clause-found c = λ decimals z within is.
    let minus : get_or c.args.word.now 0 0 ≡ 45 = omega arith in
    negative_of decimals c.args.word.now z c.args.most c.magnitude.result c.requires within is c.in-45.len_at_least minus (c.magnitude.ensures.found decimals)
