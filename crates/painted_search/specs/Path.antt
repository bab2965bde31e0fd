-- The two answers of a search over free steps (Rockafellar: painted path, painted cut), and what labels say of them. A set
-- of nodes is a list of marks, a painting a colour for each arc.
use Rattle.std.specs.Prelude.{◌≡◌, ◌≢◌, ◌⊎◌, ◌↔◌, ℕ, ◌+◌, ◌<◌, Bool, false, IsTrue, Option, Some, None, IsNone, List, length, slice_index_or}
use Rattle.theory.specs.declared.colour.Colour.{Colour}
use Rattle.theory.specs.declared.network.Step.{Step}
use Rattle.theory.specs.Painting.{IsFree}
use Rattle.theory.specs.Network.{Network}
use Rattle.theory.specs.Cut.{holds}
use Rattle.theory.specs.Circuit.{step, begin_of, end_of, WalkIsThere}

abbrev pub IsFreeStep : (ℕ → Colour) → Step → Type 0
IsFreeStep colours s = IsFree (colours s.arc.0) s.forward

abbrev pub AllFree : (ℕ → Colour) → List Step → Type 0
AllFree colours walk = (k : ℕ) → k < length walk → IsFreeStep colours (step walk k)

-- a walk of free steps from one node to another that meets no node and no arc twice
pub record IsFreePath (net : Network) (colours : ℕ → Colour) (walk : List Step) (from to : ℕ) : Type 0 where
  pub not_empty : 0 < length walk
  pub there : WalkIsThere net walk
  pub free : AllFree colours walk
  pub begins : begin_of net (step walk 0) ≡ from
  pub joined : (k : ℕ) → k + 1 < length walk → end_of net (step walk k) ≡ begin_of net (step walk (k + 1))
  pub ends : (k : ℕ) → k + 1 ≡ length walk → end_of net (step walk k) ≡ to
  pub begins_differ : (i k : ℕ) → i < k → k < length walk → begin_of net (step walk i) ≢ begin_of net (step walk k)
  pub ends_differ : (i k : ℕ) → i < k → k < length walk → end_of net (step walk i) ≢ end_of net (step walk k)
  pub arcs_differ : (i k : ℕ) → i < k → k < length walk → (step walk i).arc.0 ≢ (step walk k).arc.0

-- a set of nodes that parts two nodes, and that no free step leaves
pub record IsFreeCut (net : Network) (colours : ℕ → Colour) (side : List Bool) (from to : ℕ) : Type 0 where
  pub holds_from : IsTrue (holds side from)
  pub lacks_to : holds side to ≡ false
  pub none_leaves : (s : Step) → s.arc.0 < length net.arcs → IsFreeStep colours s → IsTrue (holds side (begin_of net s))
      → IsTrue (holds side (end_of net s))

-- the free steps of a walk grew the set from one node: each begins at that node or where an earlier one ends, and they
-- end at all other nodes of the set, and at no node outside it
pub record IsGrowth (net : Network) (colours : ℕ → Colour) (side : List Bool) (walk : List Step) (from : ℕ) : Type 0 where
  pub there : WalkIsThere net walk
  pub free : AllFree colours walk
  pub rooted : (k : ℕ) → k < length walk
      → (begin_of net (step walk k) ≡ from) ⊎ ((i : ℕ) × (i < k) × (end_of net (step walk i) ≡ begin_of net (step walk k)))
  pub inside : (k : ℕ) → k < length walk → IsTrue (holds side (end_of net (step walk k)))
  pub spanning : (i : ℕ) → IsTrue (holds side i) → i ≢ from → (k : ℕ) × (k < length walk) × (end_of net (step walk k) ≡ i)

-- ---- labels

abbrev pub label_at : List (Option Step) → ℕ → Option Step
label_at labels i = slice_index_or labels i None

-- the labels of a set that grew from a node: none exactly at that node and outside the set
abbrev pub AreLabelsOf : List (Option Step) → List Bool → ℕ → Type 0
AreLabelsOf labels side from = (i : ℕ) → IsNone (label_at labels i) ↔ ((holds side i ≡ false) ⊎ (i ≡ from))

-- each step of the walk is the label of the node where it ends
abbrev pub LeadAlong : Network → List (Option Step) → List Step → Type 0
LeadAlong net labels walk = (k : ℕ) → k < length walk → label_at labels (end_of net (step walk k)) ≡ Some (step walk k)
