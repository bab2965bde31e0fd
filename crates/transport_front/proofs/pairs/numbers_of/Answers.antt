-- A word that is none shows in the test of all words; after the last word nothing is left to read.
use Rattle.std.proofs.Common.{sym, ◌∙◌, ap, arith, ◌≡◌, ◌+◌, [], ◌∷◌, ◌++◌, map, drop, to_z, of_z, w64}
use Rattle.std.proofs.lemmas.Int.{ints}
use Rattle.std.specs.List.{list_any}
use Rattle.std.proofs.lemmas.List.{drop_all, append-nil}
use Rattle.model_text.proofs.FirstPlace.{none_left}
use Rattle.transport_front.proofs.NumberLemmas.{lacks, near_of, kept-within, test-passed, number-added, test-failed, list-fails, list-passes, near-texts}
use Rattle.transport_front.proofs.pairs.numbers_of.Goals as goal

pub returns-in_default-number-clause-tests : goal.returns-in_default-number-clause-tests
returns-in_default-number-clause-tests c =
    let none = sym c.number.ensures ∙ none_left c.number.result c.in_default-number.not-Some in
    list-fails c.args.words.now (sym c.loop-word.invariant.same_test ∙ test-failed c.args.words.now c.loop-word.word-index _ (omega arith) none)

pub loop-word-preserved : goal.loop-word-preserved
loop-word-preserved c =
    let words = c.args.words.now in
    let k = c.loop-word.word-index in
    let found = sym c.number.ensures ∙ c.in-Some.is in
    let within = kept-within _ c.in-Some.number found in
    let low = within.0 in
    let high = within.1 in
    let passed : to_z w64 (of_z w64 c.in-Some.number) ≡ c.in-Some.number = omega (arith, ints) in
    record {
      counted = omega (arith, c.push_reserved.ensures.len);
      room = omega (arith, c.push_reserved.ensures.capacity);
      same_test = test-passed words k _ (omega arith) c.in-Some.number found ∙ c.loop-word.invariant.same_test;
      same_numbers =
          ap (λ items. items ++ map near_of (drop (k + 1) words)) c.push_reserved.ensures.items
          ∙ ap (λ z. (c.loop-word.listed.items ++ z ∷ []) ++ map near_of (drop (k + 1) words)) passed
          ∙ number-added words k _ (omega arith) c.loop-word.listed.items c.in-Some.number found ∙ c.loop-word.invariant.same_numbers;
    }

pub returns-clause-tests : goal.returns-clause-tests
returns-clause-tests c =
    list-passes c.args.words.now
    (sym c.loop-word.invariant.same_test ∙ ap (list_any lacks) (drop_all c.loop-word.word-index c.args.words.now (omega arith)))

pub returns-clause-numbers : goal.returns-clause-numbers
returns-clause-numbers c =
    sym (append-nil c.loop-word.listed.items)
    ∙ ap (λ words. c.loop-word.listed.items ++ map near_of words) (sym (drop_all c.loop-word.word-index c.args.words.now (omega arith)))
    ∙ c.loop-word.invariant.same_numbers ∙ near-texts c.args.words.now
