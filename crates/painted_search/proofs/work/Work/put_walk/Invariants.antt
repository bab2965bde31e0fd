-- So many items were put.
use Rattle.std.proofs.Common.{◌≡◌, map, take, vec_len, vec_capacity}
use Rattle.painted_search.specs.StepWords.{step_of}
use Rattle.painted_search.proofs.work.Work.put_walk.Given as goal

abbrev pub invariant-loop-word : goal.invariant-loop-word
invariant-loop-word l = record {
  counted : vec_len l.list ≡ l.word-index;
  room : vec_capacity l.list ≡ vec_capacity l.initial.list;
  same : l.list.items ≡ map step_of (take l.word-index l.word-items);
}
