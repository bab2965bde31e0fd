-- A course: what is left of a flow, a walk along it that begins from no node twice, and what is known of each node: the place
-- of the step that begins there, and how many of its steps have nothing left along them.
use Rattle.std.specs.Prelude.{◌≡◌, ℕ, ◌+◌, ◌<◌, ℤ, pos, ◌≤ℤ◌, Option, Some, None, List, length, slice_index_or, slice_index}
use Rattle.theory.specs.declared.network.Step.{Step}
use Rattle.theory.specs.Network.{Network, «at»}
use Rattle.theory.specs.Conserved.{IsConserved}
use Rattle.theory.specs.Circuit.{step, begin_of, end_of, IsCircuit, WalkIsThere}
use Rattle.theory.specs.Certificate.{AreNumbers}
use Rattle.net_incidence.specs.Graph.{Graph, bare}
use Rattle.net_incidence.specs.Incidence.{incident_steps}
use Rattle.net_incidence.specs.FlowAlong.{flow_along}
use Rattle.flow_pieces.specs.declared.walker.Walker.{Walker}
use Rattle.flow_pieces.specs.Pieces.{GoesAlong}

pub record Course : Type 0 where
  pub rest : List ℤ
  pub walk : List Step
  pub places : List (Option ℕ)
  pub looked : List ℕ

abbrev pub course : Walker → Course
course w = record { rest = w.rest.items; walk = w.walk.items; places = w.places.items; looked = w.looked.items }

-- ---- the walk

-- a walk along what is left, each step from where the one before ends
pub record IsTrail (net : Network) (rest : ℕ → ℤ) (walk : List Step) : Type 0 where
  pub there : WalkIsThere net walk
  pub joined : (k : ℕ) → k + 1 < length walk → end_of net (step walk k) ≡ begin_of net (step walk (k + 1))
  pub along : GoesAlong rest walk

-- the walk, if it has a step, ends at node i
abbrev pub EndsAt : Network → List Step → ℕ → Type 0
EndsAt net walk i = (k : ℕ) → k + 1 ≡ length walk → end_of net (step walk k) ≡ i

-- a closed walk along what is left
pub record IsRound (net : Network) (rest : ℕ → ℤ) (walk : List Step) : Type 0 where
  pub there : WalkIsThere net walk
  pub circuit : IsCircuit net walk
  pub along : GoesAlong rest walk

-- ---- the nodes

abbrev pub place_at : List (Option ℕ) → ℕ → Option ℕ
place_at places i = slice_index_or places i None

-- the places of the steps by the nodes where they begin, so no two begin at one node
pub record ArePlaces (net : Network) (walk : List Step) (places : List (Option ℕ)) : Type 0 where
  pub one_each : length places ≡ net.nodes
  pub found : (k : ℕ) → k < length walk → place_at places (begin_of net (step walk k)) ≡ Some k
  pub only : (i k : ℕ) → place_at places i ≡ Some k → (k < length walk) × (begin_of net (step walk k) ≡ i)

-- nothing is left along the first steps of a list
abbrev pub AreDry : (ℕ → ℤ) → List Step → ℕ → Type 0
AreDry rest steps count = (k : ℕ) → k < count → flow_along rest (step steps k) ≤ℤ pos 0

pub record AreLooked (g : Graph) (rest : ℕ → ℤ) (looked : List ℕ) : Type 0 where
  pub one_each : length looked ≡ g.nodes
  pub dry : (i : ℕ) → i < g.nodes → AreDry rest (incident_steps g.arcs i) (slice_index looked i)

-- ---- all together

pub record IsCourse (g : Graph) (c : Course) : Type 0 where
  pub numbers : AreNumbers (length g.arcs) c.rest
  pub conserved : IsConserved (bare g) («at» c.rest)
  pub trail : IsTrail (bare g) («at» c.rest) c.walk
  pub placed : ArePlaces (bare g) c.walk c.places
  pub looked : AreLooked g («at» c.rest) c.looked
