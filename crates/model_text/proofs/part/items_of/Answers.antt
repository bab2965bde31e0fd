-- A word that is none shows in the test of all words; after the last word nothing is left to read.
use Rattle.std.proofs.Common.{sym, ◌∙◌, ap, arith, ◌+◌, ◌++◌, map, drop}
use Rattle.std.proofs.lemmas.List.{drop_all}
use Rattle.model_text.specs.LineParts.{texts}
use Rattle.model_text.specs.ModelText.{items_of, lack_items}
use Rattle.model_text.specs.NearNumbers.{near_item}
use Rattle.model_text.proofs.FirstPlace.{none_left}
use Rattle.model_text.proofs.LineLemmas.{test-passed, item-added, test-failed, list-fails, list-passes}
use Rattle.model_text.proofs.part.items_of.Goals as goal

pub returns-in_default-item-clause-tests : goal.returns-in_default-item-clause-tests
returns-in_default-item-clause-tests c =
    let none = sym c.item.ensures ∙ none_left c.item.result c.in_default-item.not-Some in
    list-fails c.args.scale (texts c.args.words.now)
    (sym c.loop-word.invariant.same_test ∙ test-failed c.loop-word.here c.loop-word.next c.args.words.now c.loop-word.word-index _ (omega arith) none)

pub loop-word-preserved : goal.loop-word-preserved
loop-word-preserved c =
    let words = c.args.words.now in
    let k = c.loop-word.word-index in
    let here = c.loop-word.here in
    let next = c.loop-word.next in
    let found = sym c.item.ensures ∙ c.in-Some.is in
    record {
      counted = omega (arith, c.push_reserved.ensures.len);
      room = omega (arith, c.push_reserved.ensures.capacity);
      here_few = c.loop-word.invariant.next_few;
      next_few = c.loop-word.invariant.here_few;
      same_test = test-passed here next words k _ (omega arith) c.in-Some.item found ∙ c.loop-word.invariant.same_test;
      same_items =
          ap (λ items. items ++ map near_item (items_of next here (texts (drop (k + 1) words)))) c.push_reserved.ensures.items
          ∙ item-added here next words k _ (omega arith) c.loop-word.items.items c.in-Some.item found ∙ c.loop-word.invariant.same_items;
    }

pub returns-clause-tests : goal.returns-clause-tests
returns-clause-tests c =
    list-passes c.args.scale (texts c.args.words.now)
    (sym c.loop-word.invariant.same_test
    ∙ ap (λ words. lack_items c.loop-word.here c.loop-word.next (texts words)) (drop_all c.loop-word.word-index c.args.words.now (omega arith)))
