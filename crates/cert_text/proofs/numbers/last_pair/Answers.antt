use Rattle.std.proofs.Common.{◌∷◌, ◌++◌, lit<}
use Rattle.theory.specs.Limits.{flow_most}
use Rattle.model_text.specs.Printed.{printed_fixed}
use Rattle.cert_text.specs.Candidate.{AreLastNumbers}
use Rattle.cert_text.proofs.Digits.{kept}
use Rattle.cert_text.proofs.Plain.{plain_number}
use Rattle.cert_text.proofs.numbers.last_pair.Goals as goal

pub returns : goal.returns
returns c =
    let read : AreLastNumbers c.args.line.now c.number_of.result c.number_of-2.result = record {
      first_within = c.number_of.ensures.within;
      second_within = c.number_of-2.ensures.within;
      found = λ decimals others front v z v_within z_within is.
          let body = c.content.ensures (front ++ 32 ∷ printed_fixed decimals v ++ 32 ∷ printed_fixed others z) is in
          let last = c.split_last_word.ensures (front ++ 32 ∷ printed_fixed decimals v) (printed_fixed others z) (plain_number others z flow_most z_within (lit< tt)) body in
          let first = c.split_last_word-2.ensures front (printed_fixed decimals v) (plain_number decimals v flow_most v_within (lit< tt)) last.0 in
          (c.number_of.ensures.found decimals v v_within first.1, c.number_of-2.ensures.found others z z_within last.1);
    } in
    rw (kept c.number_of.result c.number_of.ensures.within, kept c.number_of-2.result c.number_of-2.ensures.within) read
