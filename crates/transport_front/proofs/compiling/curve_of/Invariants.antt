-- The list so far, and what the pairs that are left put behind it, is the whole list.
use Rattle.std.proofs.Common.{◌≡◌, ◌+◌, ◌++◌, drop}
use Rattle.transport_front.specs.Table.{size_of, after, priced}
use Rattle.transport_front.proofs.compiling.curve_of.Given as goal

abbrev pub invariant-loop-pair : goal.invariant-loop-pair
invariant-loop-pair l = record {
  so_far : l.items.items ++ after l.total (drop l.pair-index l.pairs) ≡ priced l.pairs;
  total : l.total + size_of (drop l.pair-index l.pairs) ≡ size_of l.pairs;
}
