-- The tree of a search. Its nodes are numbered in the order in which they were reached: node 0 is the root, node k + 1 the end
-- of step k of the walk. Each step begins at an earlier node of the tree.
use Rattle.std.specs.Prelude.{◌≡◌, ◌≢◌, ℕ, zero, suc, ◌<◌, ◌≤◌, ℤ, false, IsTrue, Some, None, List, length}
use Rattle.theory.specs.declared.colour.Colour.{Colour}
use Rattle.theory.specs.declared.network.Step.{Step}
use Rattle.theory.specs.Network.{Network}
use Rattle.theory.specs.Cut.{holds}
use Rattle.theory.specs.Circuit.{step, begin_of, end_of, WalkIsThere}
use Rattle.net_incidence.specs.Graph.{Graph, bare}
use Rattle.painted_search.specs.Room.{Room}
use Rattle.painted_search.specs.Fits.{Fits}
use Rattle.painted_search.specs.Path.{IsFreeStep, AllFree, label_at}

abbrev pub node_at : Network → ℕ → List Step → ℕ → ℕ
node_at net from walk zero = from
node_at net from walk (suc k) = end_of net (step walk k)

-- the reached nodes are those of the tree, each once
pub record IsTree (net : Network) (colours : ℕ → Colour) (from : ℕ) (w : Room) : Type 0 where
  pub there : WalkIsThere net w.walk
  pub free : AllFree colours w.walk
  pub nodes_there : (k : ℕ) → k ≤ length w.walk → node_at net from w.walk k < net.nodes
  pub earlier : (k : ℕ) → k < length w.walk
      → (i : ℕ) × (i ≤ k) × (begin_of net (step w.walk k) ≡ node_at net from w.walk i)
  pub differ : (i k : ℕ) → i < k → k ≤ length w.walk → node_at net from w.walk i ≢ node_at net from w.walk k
  pub marked : (k : ℕ) → k ≤ length w.walk → IsTrue (holds w.reached (node_at net from w.walk k))
  pub spanned : (i : ℕ) → IsTrue (holds w.reached i) → (k : ℕ) × (k ≤ length w.walk) × (node_at net from w.walk k ≡ i)
  pub labelled : (k : ℕ) → k < length w.walk → label_at w.labels (end_of net (step w.walk k)) ≡ Some (step w.walk k)
  pub root_unlabelled : label_at w.labels from ≡ None
  pub outside_unlabelled : (i : ℕ) → holds w.reached i ≡ false → label_at w.labels i ≡ None

-- a search is under way in a room that fits the net and that the painter can work with
pub record IsSearching (g : Graph) (Ready : List ℤ → List ℤ → Type 0) (paint : List ℤ → List ℤ → ℕ → Colour) (from : ℕ) (w : Room) : Type 0 where
  pub fits : Fits g w
  pub ready : Ready w.flows w.potentials
  pub tree : IsTree (bare g) (paint w.flows w.potentials) from w

-- the tree of the first room goes on in that of the second one
pub record GoesOn (v w : Room) : Type 0 where
  pub flows : w.flows ≡ v.flows
  pub potentials : w.potentials ≡ v.potentials
  pub longer : length v.walk ≤ length w.walk
  pub walk : (k : ℕ) → k < length v.walk → step w.walk k ≡ step v.walk k
  pub reached : (i : ℕ) → IsTrue (holds v.reached i) → IsTrue (holds w.reached i)

-- all free steps that begin at the first nodes of the tree end at reached nodes
abbrev pub AreLeft : Network → (ℕ → Colour) → ℕ → Room → ℕ → Type 0
AreLeft net colours from w count =
    (k : ℕ) → k < count → (s : Step) → s.arc.0 < length net.arcs → begin_of net s ≡ node_at net from w.walk k
    → IsFreeStep colours s → IsTrue (holds w.reached (end_of net s))

-- nothing but the walk differs
pub record IsSameButWalk (v w : Room) : Type 0 where
  pub nodes : w.nodes ≡ v.nodes
  pub arcs : w.arcs ≡ v.arcs
  pub flows : w.flows ≡ v.flows
  pub potentials : w.potentials ≡ v.potentials
  pub reached : w.reached ≡ v.reached
  pub labels : w.labels ≡ v.labels
