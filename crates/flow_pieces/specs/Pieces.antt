-- Pieces of a flow: circuits with weights, taken off one after another until nothing is left (the decomposition of a
-- circulation into circuits: L. R. Ford and D. R. Fulkerson, Flows in Networks). Each circuit goes along what is left of the
-- flow, and takes off as much as all its arcs have.
use Rattle.std.specs.Prelude.{◌≡◌, ℕ, ◌<◌, ◌≤◌, ◌==◌, ℤ, pos, ◌-ℤ◌, neg_ℤ, ◌<ℤ◌, ◌≤ℤ◌, Bool, if◌then◌else◌, List, [], ◌∷◌, length, slice_index_or}
use Rattle.theory.specs.declared.network.Step.{Step}
use Rattle.theory.specs.Sums.{sum_over, counted}
use Rattle.theory.specs.Network.{Network}
use Rattle.theory.specs.Circuit.{step, begin_of, IsCircuit, WalkIsThere}
use Rattle.net_incidence.specs.FlowAlong.{flow_along}

pub record FlowPiece : Type 0 where
  pub weight : ℤ
  pub walk : List Step

-- piece k of a list
abbrev pub piece_at : List FlowPiece → ℕ → FlowPiece
piece_at ps k = slice_index_or ps k (record { weight = pos 0; walk = [] })

-- so much in the direction of a step
abbrev pub directed : ℤ → Bool → ℤ
directed weight forward = if forward then weight else (neg_ℤ weight)

-- what so much along a walk adds to the flow of arc j
abbrev pub carried : ℤ → List Step → ℕ → ℤ
carried weight walk j = sum_over (λ s. counted (s.arc.0 == j) (directed weight s.forward)) walk

-- what a piece leaves of a flow
abbrev pub left_by : (ℕ → ℤ) → FlowPiece → ℕ → ℤ
left_by rest p j = rest j -ℤ carried p.weight p.walk j

-- every step goes along what is left of the flow of its arc
abbrev pub GoesAlong : (ℕ → ℤ) → List Step → Type 0
GoesAlong rest walk = (k : ℕ) → k < length walk → pos 0 <ℤ flow_along rest (step walk k)

-- no step begins at a node of a lesser number than the first
abbrev pub BeginsLeast : Network → List Step → Type 0
BeginsLeast net walk = (k : ℕ) → k < length walk → begin_of net (step walk 0) ≤ begin_of net (step walk k)

-- the weight is the least that is left on the arcs of the walk
pub record IsLeastAlong (rest : ℕ → ℤ) (walk : List Step) (weight : ℤ) : Type 0 where
  pub least : (k : ℕ) → k < length walk → weight ≤ℤ flow_along rest (step walk k)
  pub met : (k : ℕ) × (k < length walk) × (weight ≡ flow_along rest (step walk k))

pub record IsPiece (net : Network) (rest : ℕ → ℤ) (p : FlowPiece) : Type 0 where
  pub there : WalkIsThere net p.walk
  pub circuit : IsCircuit net p.walk
  pub along : GoesAlong rest p.walk
  pub weighs : IsLeastAlong rest p.walk p.weight
  pub first : BeginsLeast net p.walk

abbrev pub ArePieces : Network → (ℕ → ℤ) → List FlowPiece → Type 0
ArePieces net rest [] = (j : ℕ) → j < length net.arcs → rest j ≡ pos 0
ArePieces net rest (p ∷ later) = IsPiece net rest p × ArePieces net (left_by rest p) later
