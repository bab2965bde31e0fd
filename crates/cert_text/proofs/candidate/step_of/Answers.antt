use Rattle.std.proofs.Common.{◌≡◌, ◌==◌, Some, None, length, bytes_eq, ap, sym, ◌∙◌}
use Rattle.std.proofs.lemmas.Bool.{both_ways}
use Rattle.cert_text.proofs.StepLines.{arc_read, sign_read, named_there, same_step}
use Rattle.cert_text.proofs.candidate.step_of.Goals as goal

pub returns-in_err-arc : goal.returns-in_err-arc
returns-in_err-arc c =
    rw c.from_residual.ensures
    (λ t there is.
    let read = arc_read c.args.m.now.entries c.args.m.now.formed c.args.line.now c.content.result.now
    c.split_last_word.result.0.now c.split_last_word.result.1.now c.split_last_word-2.result.0.now c.split_last_word-2.result.1.now
    c.content.ensures c.split_last_word.ensures c.split_last_word-2.ensures t there is None c.in_err-arc.ensures in
    cc)

pub returns : goal.returns
returns c =
    let m = c.args.m.now in
    record {
      there = named_there m.entries m.formed c.split_last_word-2.result.1.now c.split_last_word.result.1.now c.in_ok-arc.arc (sym c.in_ok-arc.ensures);
      some = λ empty. both_ways (length c.args.line.now == 0) (sym c.is_empty.ensures ∙ c.if-is_empty.false) (ap (λ l. length l == 0) empty);
      found = λ t there is.
          let read = arc_read m.entries m.formed c.args.line.now c.content.result.now
          c.split_last_word.result.0.now c.split_last_word.result.1.now c.split_last_word-2.result.0.now c.split_last_word-2.result.1.now
          c.content.ensures c.split_last_word.ensures c.split_last_word-2.ensures t there is (Some c.in_ok-arc.arc) c.in_ok-arc.ensures in
          let sign = sign_read m.entries m.formed c.args.line.now c.content.result.now
          c.split_last_word.result.0.now c.split_last_word.result.1.now c.split_last_word-2.result.0.now c.split_last_word-2.result.1.now
          c.content.ensures c.split_last_word.ensures c.split_last_word-2.ensures t there is c.eq.result (c.eq.ensures ∙ ap (bytes_eq c.split_last_word-2.result.0.now) c.as_slice.ensures) in
          let arc : c.in_ok-arc.arc ≡ t.arc.0 = cc in
          same_step t c.in_ok-arc.arc c.eq.result arc sign;
    }
