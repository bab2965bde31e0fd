use Rattle.std.proofs.Common.{arith, sym, ◌∙◌, ap, refl, take, drop, length, ◌-◌}
use Rattle.model_text.proofs.LineLemmas.{no_words, no_keyword, parts}
use Rattle.model_text.proofs.line.Line.of.Goals as goal

pub returns-in_default-clause-keyword : goal.returns-in_default-clause-keyword
returns-in_default-clause-keyword c = λ none. no_words c.args.words.now c.in_default.len_below

pub returns-in_err-kind-clause-keyword : goal.returns-in_err-kind-clause-keyword
returns-in_err-kind-clause-keyword c = λ none. no_keyword c.args.words.now _ (omega arith) (sym c.kind_of.ensures ∙ c.in_err-kind.was)

pub invariant_of-result : goal.invariant_of-result
invariant_of-result c =
    let words = c.args.words.now in
    let rest = take (length words - 1) (drop 1 words) in
    record {
      parts = parts words _ c.in_ok-kind.kind c.names_wanted.result rest c.split_at.result.0.now c.split_at.result.1.now
          (omega arith) (sym c.kind_of.ensures ∙ c.in_ok-kind.was) refl c.names_wanted.ensures
          (c.split_at.ensures.front ∙ ap (λ n. take n rest) c.min.ensures) (c.split_at.ensures.back ∙ ap (λ n. drop n rest) c.min.ensures);
    }
