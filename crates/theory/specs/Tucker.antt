-- Tucker entries of a spanning tree: how the circuit that an arc closes with the tree passes a tree arc
-- (Rockafellar: Tucker tableau).
use Rattle.std.specs.Prelude.{◌≡◌, ℕ, ◌+◌, ◌<◌, ◌==◌, ◌≢◌, ℤ, pos, negsuc, true, List, [], ◌∷◌, length, slice_index_or, if◌then◌else◌}
use Rattle.theory.specs.declared.network.Step.{Step}
use Rattle.theory.specs.Network.{Network}
use Rattle.theory.specs.Circuit.{IsCircuit, begin_of, end_of, step}

-- a list of arcs has arc j
pub record HasArc (arcs : List ℕ) (j : ℕ) : Type 0 where
  pub place : ℕ
  pub there : place < length arcs
  pub is : slice_index_or arcs place 0 ≡ j

-- all steps of the walk are over these arcs
abbrev pub GoesOver : List ℕ → List Step → Type 0
GoesOver arcs walk = (k : ℕ) → k < length walk → HasArc arcs (step walk k).arc.0

-- the walk leads from one node to another
abbrev pub Leads : Network → ℕ → List Step → ℕ → Type 0
Leads net i [] k = i ≡ k
Leads net i (s ∷ walk) k = (begin_of net s ≡ i) × Leads net (end_of net s) walk k

pub record IsSpanningTree (net : Network) (tree : List ℕ) : Type 0 where
  pub count : length tree + 1 ≡ net.nodes
  pub there : (i : ℕ) → i < length tree → slice_index_or tree i 0 < length net.arcs
  pub differ : (i k : ℕ) → i < k → k < length tree → slice_index_or tree i 0 ≢ slice_index_or tree k 0
  pub no_circuit : (walk : List Step) → IsCircuit net walk → GoesOver tree walk → ⊥
  pub joins_all : (k : ℕ) → k < net.nodes → (walk : List Step) × GoesOver tree walk × Leads net 0 walk k

-- the circuit that begins forward over arc j and goes on over the tree
pub record IsCircuitOf (net : Network) (tree : List ℕ) (j : ℕ) (walk : List Step) : Type 0 where
  pub circuit : IsCircuit net walk
  pub begins : step walk 0 ≡ record { arc = record { 0 = j }; forward = true }
  pub goes_on : (k : ℕ) → 0 < k → k < length walk → HasArc tree (step walk k).arc.0

-- how a walk passes arc i: 1 forward, -1 backward, 0 not at all
abbrev pub passing : List Step → ℕ → ℤ
passing [] i = pos 0
passing (s ∷ walk) i = if s.arc.0 == i then (if s.forward then pos 1 else negsuc 0) else passing walk i

pub record IsTuckerEntry (net : Network) (tree : List ℕ) (i j : ℕ) (entry : ℤ) : Type 0 where
  pub one : (walk : List Step) × IsCircuitOf net tree j walk
  pub each : (walk : List Step) → IsCircuitOf net tree j walk → entry ≡ passing walk i
