-- What holds of the pieces of a flow: they add up to it, they are no more than the arcs that carry something, and none goes
-- against it. Only a conserved flow has pieces.
use Rattle.std.specs.Prelude.{◌≡◌, ℕ, zero, suc, ◌<◌, ◌≤◌, ℤ, pos, negsuc, ◌≤ℤ◌, Bool, true, false, if◌then◌else◌, List, length}
use Rattle.theory.specs.Sums.{sum_over, total_below, Each}
use Rattle.theory.specs.Network.{Network}
use Rattle.theory.specs.Circuit.{IsCircuit, WalkIsThere}
use Rattle.theory.specs.Conserved.{IsConserved}
use Rattle.flow_pieces.specs.Pieces.{FlowPiece, carried, GoesAlong, BeginsLeast, ArePieces}

-- what all pieces together add to the flow of arc j, each step counted with its direction
abbrev pub carried_together : List FlowPiece → ℕ → ℤ
carried_together ps j = sum_over (λ p. carried p.weight p.walk j) ps

abbrev pub carries : ℤ → Bool
carries (pos zero) = false
carries (pos (suc n)) = true
carries (negsuc n) = true

-- how many of the first m arcs carry something
abbrev pub count_carrying : ℕ → (ℕ → ℤ) → ℕ
count_carrying m x = total_below m (λ j. if carries (x j) then 1 else 0)

-- some weight round a circuit that goes nowhere against the flow, from the least of its nodes on
pub record IsCircuitOfFlow (net : Network) (x : ℕ → ℤ) (p : FlowPiece) : Type 0 where
  pub there : WalkIsThere net p.walk
  pub circuit : IsCircuit net p.walk
  pub along : GoesAlong x p.walk
  pub weight : pos 1 ≤ℤ p.weight
  pub first : BeginsLeast net p.walk

abbrev pub AddUp : Network → (ℕ → ℤ) → List FlowPiece → Type 0
AddUp net x ps = (j : ℕ) → j < length net.arcs → carried_together ps j ≡ x j

pub record IsSumOfCircuits (net : Network) (x : ℕ → ℤ) (ps : List FlowPiece) : Type 0 where
  pub sums : AddUp net x ps
  pub few : length ps ≤ count_carrying (length net.arcs) x
  pub circuits : Each (IsCircuitOfFlow net x) ps
  pub conserved : IsConserved net x

abbrev pub PiecesLaw : Type 0
PiecesLaw = (net : Network) (x : ℕ → ℤ) (ps : List FlowPiece) → ArePieces net x ps → IsSumOfCircuits net x ps
