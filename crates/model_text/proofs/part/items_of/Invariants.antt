-- The items so far, and those of the words that are left, are those of all words; no word so far is none.
use Rattle.std.proofs.Common.{◌≡◌, ◌≤◌, ◌++◌, map, drop, length, vec_len, vec_capacity}
use Rattle.model_text.specs.LineParts.{texts}
use Rattle.model_text.specs.ModelText.{items_of, lack_items}
use Rattle.model_text.specs.NearNumbers.{near_item}
use Rattle.model_text.proofs.part.items_of.Given as goal

abbrev pub invariant-loop-word : goal.invariant-loop-word
invariant-loop-word l = record {
  counted : vec_len l.items ≡ l.word-index;
  room : length l.words ≤ vec_capacity l.items;
  here_few : l.here ≤ 12;
  next_few : l.next ≤ 12;
  same_test : lack_items l.here l.next (texts (drop l.word-index l.words)) ≡ lack_items l.fn.scale.flow l.fn.scale.tension (texts l.words);
  same_items : l.items.items ++ map near_item (items_of l.here l.next (texts (drop l.word-index l.words)))
      ≡ map near_item (items_of l.fn.scale.flow l.fn.scale.tension (texts l.words));
}
