-- Certificate: the evidence that a solve ends with. A flow with a potential is optimal; a cut shows that there is no
-- feasible flow; a flow with a circuit shows that no plan is bounded. The bare certificate is the evidence alone, the
-- certificate has its numbers too.
use Rattle.std.specs.Prelude.{◌≡◌, ℕ, ◌^◌, ◌<◌, ℤ, pos, Bool, List, length}
use Rattle.theory.specs.declared.network.Step.{Step}
use Rattle.theory.specs.Limits.{IsWithin, flow_most, sum_most}
use Rattle.theory.specs.Network.{Network, «at», curve}
use Rattle.theory.specs.Conserved.{IsConserved, tension}
use Rattle.theory.specs.OnCurve.{IsOnCurve}
use Rattle.theory.specs.Feasible.{IsFeasibleFlow}
use Rattle.theory.specs.Totals.{total_cost, total_value}
use Rattle.theory.specs.Cut.{IsNegativeCut, cut_sum}
use Rattle.theory.specs.Circuit.{IsNegativeCircuit, WalkIsThere, span_sum}

pub data BareCertificate : Type 0 where
  optimal_pair : List ℤ → List ℤ → BareCertificate
  negative_cut : List Bool → BareCertificate
  negative_circuit : List ℤ → List Step → BareCertificate

pub data Certificate : Type 0 where
  optimal : (flows potentials : List ℤ) → (cost value : ℤ) → Certificate
  cut : (side : List Bool) → (capacity : ℤ) → Certificate
  circuit : (flows : List ℤ) → (walk : List Step) → (span : ℤ) → Certificate

abbrev pub bare : Certificate → BareCertificate
bare (optimal x u cost value) = optimal_pair x u
bare (cut side capacity) = negative_cut side
bare (circuit x walk span) = negative_circuit x walk

-- ---- what fits a network: the right counts, and numbers within the limits

-- a number for each, within the limit
pub record AreNumbers (count : ℕ) (xs : List ℤ) : Type 0 where
  pub one_each : length xs ≡ count
  pub within : (k : ℕ) → k < count → IsWithin flow_most («at» xs k)

pub record IsWalkOf (net : Network) (walk : List Step) : Type 0 where
  pub there : WalkIsThere net walk
  pub short : length walk < 2 ^ 31

pub record IsPotentialOf (net : Network) (u : List ℤ) : Type 0 where
  pub numbers : AreNumbers net.nodes u
  pub ground : «at» u 0 ≡ pos 0

abbrev pub FitsBare : Network → BareCertificate → Type 0
FitsBare net (optimal_pair x u) = AreNumbers (length net.arcs) x × IsPotentialOf net u
FitsBare net (negative_cut side) = length side ≡ net.nodes
FitsBare net (negative_circuit x walk) = AreNumbers (length net.arcs) x × IsWalkOf net walk

abbrev pub NumbersFit : Certificate → Type 0
NumbersFit (optimal x u cost value) = IsWithin sum_most cost × IsWithin sum_most value
NumbersFit (cut side capacity) = IsWithin sum_most capacity
NumbersFit (circuit x walk span) = IsWithin sum_most span

abbrev pub Fits : Network → Certificate → Type 0
Fits net c = FitsBare net (bare c) × NumbersFit c

-- ---- what is valid

pub record IsOptimalPair (net : Network) (x u : List ℤ) : Type 0 where
  pub conserved : IsConserved net («at» x)
  pub on_curves : (j : ℕ) → j < length net.arcs → IsOnCurve 1 (curve net j).items («at» x j) (tension net («at» u) j)

abbrev pub Shows : Network → BareCertificate → Type 0
Shows net (optimal_pair x u) = IsOptimalPair net x u
Shows net (negative_cut side) = IsNegativeCut net side
Shows net (negative_circuit x walk) = IsFeasibleFlow 1 net x × IsNegativeCircuit net walk

abbrev pub NumbersAreRight : Network → Certificate → Type 0
NumbersAreRight net (optimal x u cost value) = (cost ≡ total_cost 1 net («at» x)) × (value ≡ total_value 1 net («at» u))
NumbersAreRight net (cut side capacity) = capacity ≡ cut_sum net side
NumbersAreRight net (circuit x walk span) = span ≡ span_sum net walk

pub record IsValidBare (net : Network) (b : BareCertificate) : Type 0 where
  pub fits : FitsBare net b
  pub shows : Shows net b

pub record IsValid (net : Network) (c : Certificate) : Type 0 where
  pub fits : Fits net c
  pub shows : Shows net (bare c)
  pub right : NumbersAreRight net c
