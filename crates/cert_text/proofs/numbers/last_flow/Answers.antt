use Rattle.std.proofs.Common.{◌∷◌, ◌++◌, lit<}
use Rattle.theory.specs.Limits.{flow_most}
use Rattle.model_text.specs.Printed.{printed_fixed}
use Rattle.cert_text.specs.Candidate.{IsLastNumber}
use Rattle.cert_text.proofs.Digits.{kept}
use Rattle.cert_text.proofs.Plain.{plain_number}
use Rattle.cert_text.proofs.numbers.last_flow.Goals as goal

pub returns : goal.returns
returns c =
    let read : IsLastNumber flow_most c.args.line.now c.number_of.result = record {
      within = c.number_of.ensures.within;
      found = λ decimals front y within is.
          c.number_of.ensures.found decimals y within
          (c.split_last_word.ensures front (printed_fixed decimals y) (plain_number decimals y flow_most within (lit< tt)) (c.content.ensures (front ++ 32 ∷ printed_fixed decimals y) is)).1;
    } in
    rw (kept c.number_of.result c.number_of.ensures.within) read
