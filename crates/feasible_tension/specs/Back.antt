-- Back along the labels: from a node to the one where its label begins, and on from there. A node without a label stays.
use Rattle.std.specs.Prelude.{◌≡◌, ℕ, zero, suc, ◌<◌, Option, Some, None, List}
use Rattle.theory.specs.declared.network.Step.{Step}
use Rattle.theory.specs.Network.{Network}
use Rattle.theory.specs.Circuit.{begin_of}
use Rattle.painted_search.specs.Path.{label_at}

abbrev pub begin_or : Network → ℕ → Option Step → ℕ
begin_or net i None = i
begin_or net i (Some s) = begin_of net s

abbrev pub parent : Network → List (Option Step) → ℕ → ℕ
parent net labels i = begin_or net i (label_at labels i)

-- this many labels back
abbrev pub back : Network → List (Option Step) → ℕ → ℕ → ℕ
back net labels zero i = i
back net labels (suc k) i = parent net labels (back net labels k i)

pub record IsLabelled (labels : List (Option Step)) (i : ℕ) : Type 0 where
  pub pace : Step
  pub is : label_at labels i ≡ Some pace

-- the node has this many labels behind it
pub record IsDeep (net : Network) (labels : List (Option Step)) (count i : ℕ) : Type 0 where
  pub there : i < net.nodes
  pub labelled : (k : ℕ) → k < count → IsLabelled labels (back net labels k i)

-- going back from the node comes to it again
pub record IsOnCircuit (net : Network) (labels : List (Option Step)) (i : ℕ) : Type 0 where
  pub period : ℕ
  pub some : 0 < period
  pub comes_again : back net labels period i ≡ i
  pub deep : IsDeep net labels period i
