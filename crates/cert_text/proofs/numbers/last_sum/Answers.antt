use Rattle.std.proofs.Common.{◌∷◌, ◌++◌, lit<, lit≤}
use Rattle.theory.specs.Limits.{sum_most}
use Rattle.model_text.specs.Printed.{printed_fixed}
use Rattle.cert_text.specs.Candidate.{IsLastNumber}
use Rattle.cert_text.proofs.Digits.{kept_wide}
use Rattle.cert_text.proofs.Plain.{plain_number}
use Rattle.cert_text.proofs.numbers.last_sum.Goals as goal

pub returns : goal.returns
returns c =
    let read : IsLastNumber sum_most c.args.line.now c.number_of.result = record {
      within = c.number_of.ensures.within;
      found = λ decimals front y within is.
          c.number_of.ensures.found decimals y within
          (c.split_last_word.ensures front (printed_fixed decimals y) (plain_number decimals y sum_most within (lit< tt)) (c.content.ensures (front ++ 32 ∷ printed_fixed decimals y) is)).1;
    } in
    rw (kept_wide sum_most c.number_of.result (lit≤ tt) c.number_of.ensures.within) read
