-- The pairs so far and those that are left are all pairs; the sizes so far are right, and add up to the total.
use Rattle.std.proofs.Common.{◌≡◌, ◌≤◌, ◌++◌, false, length}
use Rattle.std.specs.List.{list_any}
use Rattle.theory.specs.Limits.{number_most}
use Rattle.model_text.specs.ModelText.{is_over}
use Rattle.transport_front.specs.Table.{size_of}
use Rattle.transport_front.specs.TableText.{pairs_of}
use Rattle.transport_front.proofs.PairLemmas.{is_none_of}
use Rattle.transport_front.proofs.pairs.paired.Given as goal

abbrev pub decreases-loop-rest : goal.decreases-loop-rest
decreases-loop-rest l = length l.rest

abbrev pub invariant-loop-rest : goal.invariant-loop-rest
invariant-loop-rest l = record {
  joined : l.pairs.items ++ pairs_of l.rest ≡ pairs_of l.listed;
  sizes : list_any is_none_of l.pairs.items ≡ false;
  total : size_of l.pairs.items ≡ l.total;
  within : list_any is_over l.rest ≡ false;
  most : l.total ≤ number_most;
}
