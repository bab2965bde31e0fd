-- A lap of a circuit of labels, backward: the walk holds the labels from a node back to it, and meets the node at its end alone.
-- Turned round it is a circuit, and its span sum is below 0.
use Rattle.std.specs.Prelude.{◌≡◌, ◌≢◌, ℕ, ◌<◌, pos, ◌<ℤ◌, Option, Some, List, length, reverse}
use Rattle.theory.specs.declared.network.Step.{Step}
use Rattle.theory.specs.Network.{Network}
use Rattle.theory.specs.Circuit.{step, SpanCounts, span_sum}
use Rattle.painted_search.specs.Path.{label_at}
use Rattle.feasible_tension.specs.Back.{back}

pub record IsLap (net : Network) (labels : List (Option Step)) (root : ℕ) (walk : List Step) : Type 0 where
  pub some : 0 < length walk
  pub led : (k : ℕ) → k < length walk → label_at labels (back net labels k root) ≡ Some (step walk k)
  pub comes_again : back net labels (length walk) root ≡ root
  pub not_before : (k : ℕ) → 0 < k → k < length walk → back net labels k root ≢ root
  pub counts : SpanCounts net (reverse walk)
  pub negative : span_sum net (reverse walk) <ℤ pos 0
