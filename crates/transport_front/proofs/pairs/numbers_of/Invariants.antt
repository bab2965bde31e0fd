-- The numbers so far, and those of the words that are left, are those of all words; no word so far is none.
use Rattle.std.proofs.Common.{◌≡◌, ◌≤◌, ◌++◌, map, drop, length, vec_len, vec_capacity}
use Rattle.std.specs.List.{list_any}
use Rattle.transport_front.proofs.NumberLemmas.{lacks, near_of}
use Rattle.transport_front.proofs.pairs.numbers_of.Given as goal

abbrev pub invariant-loop-word : goal.invariant-loop-word
invariant-loop-word l = record {
  counted : vec_len l.listed ≡ l.word-index;
  room : length l.words ≤ vec_capacity l.listed;
  same_test : list_any lacks (drop l.word-index l.words) ≡ list_any lacks l.words;
  same_numbers : l.listed.items ++ map near_of (drop l.word-index l.words) ≡ map near_of l.words;
}
