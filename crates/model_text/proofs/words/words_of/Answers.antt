use Rattle.std.specs.Prelude.{not, length, ◌==◌}
use Rattle.std.proofs.Common.{rules, ◌∙◌}
use borrow.Author.Tests.{tests}
use Rattle.std.proofs.lemmas.Iterator.Consumers.{map_from_collect, YieldsList-from_filter, YieldsList-at}
use Rattle.std.proofs.lemmas.Iterator.Splits.{YieldsList-from_slice_split}
use Rattle.model_text.specs.Lines.{is_blank, content, line_words}
use Rattle.model_text.proofs.words.words_of.Goals as goal

pub returns : goal.returns
unfolding line_words
returns c =
    map_from_collect _ c.collect.ensures.ran
    (YieldsList-from_filter _ (λ piece. not (length piece == 0))
    (YieldsList-at c.filter.ensures.source
    (YieldsList-from_slice_split _ is_blank (content c.args.line.now) (c.split.ensures.rest ∙ c.content.ensures) c.split.ensures.done c.split.ensures.closure (λ x r q k. search (rules, tests))))
    c.filter.ensures.closure (λ x r q k. search (rules, tests)))
