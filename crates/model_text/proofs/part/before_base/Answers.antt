use Rattle.std.proofs.Common.{rules, ◌≡◌, not, ◌∙◌, sym, ap, unwrap_or, length}
use borrow.Author.Tests.{tests}
use Rattle.std.proofs.lemmas.Iterator.{YieldsList-from_slice}
use Rattle.std.proofs.lemmas.Iterator.Search.{position_from_yields_List}
use Rattle.model_text.specs.ModelText.{is_base_word}
use Rattle.model_text.proofs.FirstPlace.{first_place, or_length, prefix_len-map}
use Rattle.model_text.proofs.part.before_base.Goals as goal

pub returns-clause-count : goal.returns-clause-count
returns-clause-count c =
    let words = c.args.words.now in
    let is : c.position.result ≡ first_place (λ word. is_base_word word.now) words =
    position_from_yields_List _ _ _ c.position.result c.position.ensures.ran (YieldsList-from_slice words cc) (λ x b q k. search (rules, tests)) in
    c.unwrap_or.ensures ∙ ap (λ place. unwrap_or place (length words)) is ∙ or_length (λ word. is_base_word word.now) words
    ∙ sym (prefix_len-map (λ word. word.now) (λ word. not (is_base_word word)) words)
