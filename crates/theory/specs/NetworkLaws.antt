-- Laws of networks: the sum law, weak duality over every denominator, what negative cuts and circuits refuse, and that
-- a feasible flow with a negative circuit leaves no plan bounded.
use Rattle.std.specs.Prelude.{◌≡◌, ℕ, ◌≤◌, ◌<◌, ℤ, pos, ◌*ℤ◌, ◌≤ℤ◌, ◌<ℤ◌, Bool, List, length}
use Rattle.theory.specs.declared.network.Step.{Step}
use Rattle.theory.specs.OnCurve.{IsOnCurve}
use Rattle.theory.specs.Network.{Network, IsNetwork, «at», curve, over_arcs}
use Rattle.theory.specs.Conserved.{IsConserved, tension}
use Rattle.theory.specs.Feasible.{IsFeasibleFlow, IsFeasiblePotential}
use Rattle.theory.specs.Totals.{total_cost, total_value}
use Rattle.theory.specs.Best.{IsLeast, IsGreatest, FlowIsRefused, TensionIsRefused}
use Rattle.theory.specs.Cut.{IsNegativeCut}
use Rattle.theory.specs.Circuit.{IsNegativeCircuit, WalkIsThere}

-- a conserved flow is orthogonal to every tension
abbrev pub SumLaw : Type 0
SumLaw = (net : Network) (x u : ℕ → ℤ) → IsNetwork net → IsConserved net x → over_arcs net (λ j. x j *ℤ tension net u j) ≡ pos 0

-- no value is above any cost, over every denominator
abbrev pub WeakDualityLaw : Type 0
WeakDualityLaw = (net : Network) (q : ℕ) (x u : List ℤ) → 1 ≤ q → IsNetwork net → IsFeasibleFlow q net x → IsFeasiblePotential q net u
    → total_value q net («at» u) ≤ℤ total_cost q net («at» x)

-- where every pair is on its curve the two are equal; then no flow costs less and no potential has a greater value
pub record IsBest (net : Network) (x u : List ℤ) : Type 0 where
  pub equal : total_cost 1 net («at» x) ≡ total_value 1 net («at» u)
  pub least : IsLeast net (total_cost 1 net («at» x))
  pub greatest : IsGreatest net (total_value 1 net («at» u))

abbrev pub OptimalPairLaw : Type 0
OptimalPairLaw = (net : Network) (x u : List ℤ) → IsNetwork net → IsConserved net («at» x)
    → ((j : ℕ) → j < length net.arcs → IsOnCurve 1 (curve net j).items («at» x j) (tension net («at» u) j)) → IsBest net x u

-- a negative cut refuses every flow; a negative circuit refuses every potential
abbrev pub NegativeCutLaw : Type 0
NegativeCutLaw = (net : Network) (side : List Bool) → IsNetwork net → IsNegativeCut net side → FlowIsRefused net

abbrev pub NegativeCircuitLaw : Type 0
NegativeCircuitLaw = (net : Network) (walk : List Step) → IsNetwork net → WalkIsThere net walk → IsNegativeCircuit net walk
    → TensionIsRefused net

-- no plan is bounded: under every bound there is the cost of a feasible flow
abbrev pub HasNoBound : Network → Type 0
HasNoBound net = (bound : ℤ) → (y : List ℤ) × IsFeasibleFlow 1 net y × (total_cost 1 net («at» y) <ℤ bound)

-- a feasible flow with a negative circuit: no plan is bounded
abbrev pub UnboundedLaw : Type 0
UnboundedLaw = (net : Network) (x : List ℤ) (walk : List Step) → IsNetwork net → IsFeasibleFlow 1 net x → WalkIsThere net walk
    → IsNegativeCircuit net walk → HasNoBound net
