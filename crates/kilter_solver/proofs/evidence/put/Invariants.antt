-- So many items were put.
use Rattle.std.proofs.Common.{◌≡◌, take, vec_len, vec_capacity}
use Rattle.kilter_solver.proofs.evidence.put.Given as goal

abbrev pub invariant-loop-item : goal.invariant-loop-item
invariant-loop-item g l = record {
  counted : vec_len l.list ≡ l.item-index;
  room : vec_capacity l.list ≡ vec_capacity l.initial.list;
  same : l.list.items ≡ take l.item-index l.items;
}
