-- The verdict on a certificate: what the first of its tests that fails has found. The tests of each kind are made in the
-- order in which their verdicts stand here, so each verdict says that the tests before it passed.
use Rattle.std.specs.Prelude.{◌≡◌, ◌≢◌, ◌⊎◌, ℕ, ℤ, pos, ◌≤ℤ◌, Bool, List, length}
use Rattle.theory.specs.declared.network.Step.{Step}
use Rattle.theory.specs.First.{IsFirstFailing}
use Rattle.theory.specs.Domain.{InDomain}
use Rattle.theory.specs.OnCurve.{IsOnCurve}
use Rattle.theory.specs.Network.{Network, «at», curve}
use Rattle.theory.specs.Conserved.{outflow, inflow, tension, IsConserved}
use Rattle.theory.specs.Feasible.{IsFeasibleFlow}
use Rattle.theory.specs.Totals.{total_cost, total_value}
use Rattle.theory.specs.Cut.{cut_end, cut_sum, CutCounts, IsNegativeCut}
use Rattle.theory.specs.Circuit.{step, span_end, span_sum, SpanCounts, IsCircuit, IsNegativeCircuit}
use Rattle.theory.specs.Certificate.{Certificate, IsOptimalPair}
use Rattle.theory.specs.Certificate.Certificate.{optimal, cut, circuit}
use Rattle.net_incidence.specs.BadStep.{IsFault}
use Rattle.net_incidence.specs.SumAnswers.{IsFirstEndless}
use Rattle.cert_check.specs.declared.judged.Judged.{Judged}
use Rattle.cert_check.specs.declared.judged.Judged.TheVariants.{Accepted, NotConserved, OffCurve, OutOfCapacity, NotCircuit, Endless, WrongNumber, NotNegative}

-- ---- what the tests ask for

abbrev pub IsBalanced : Network → List ℤ → ℕ → Type 0
IsBalanced net x i = outflow net («at» x) i ≡ inflow net («at» x) i

abbrev pub IsPairOfCurve : Network → List ℤ → List ℤ → ℕ → Type 0
IsPairOfCurve net x u j = IsOnCurve 1 (curve net j).items («at» x j) (tension net («at» u) j)

abbrev pub IsInCapacity : Network → List ℤ → ℕ → Type 0
IsInCapacity net x j = InDomain 1 (curve net j).items («at» x j)

-- the number is stated, and another is right
pub record IsWrong (number due stated right : ℤ) : Type 0 where
  pub wrong : number ≢ due
  pub stated_is : stated ≡ number
  pub right_is : right ≡ due

-- ---- the verdicts on each kind

abbrev pub OnPair : Network → List ℤ → List ℤ → ℤ → ℤ → Judged → Type 0
OnPair net x u cost value (NotConserved node) = IsFirstFailing net.nodes (IsBalanced net x) node.0
OnPair net x u cost value (OffCurve arc) = IsConserved net («at» x) × IsFirstFailing (length net.arcs) (IsPairOfCurve net x u) arc.0
OnPair net x u cost value (WrongNumber stated right) =
    IsOptimalPair net x u
    × (IsWrong cost (total_cost 1 net («at» x)) stated right
    ⊎ (cost ≡ total_cost 1 net («at» x)) × IsWrong value (total_value 1 net («at» u)) stated right)
OnPair net x u cost value Accepted =
    IsOptimalPair net x u × (cost ≡ total_cost 1 net («at» x)) × (value ≡ total_value 1 net («at» u))
OnPair net x u cost value verdict = ⊥

abbrev pub OnCut : Network → List Bool → ℤ → Judged → Type 0
OnCut net side capacity (Endless arc) = IsFirstEndless (length net.arcs) (cut_end net side) arc.0
OnCut net side capacity (WrongNumber stated right) = CutCounts net side × IsWrong capacity (cut_sum net side) stated right
OnCut net side capacity NotNegative = CutCounts net side × (capacity ≡ cut_sum net side) × (pos 0 ≤ℤ capacity)
OnCut net side capacity Accepted = IsNegativeCut net side × (capacity ≡ cut_sum net side)
OnCut net side capacity verdict = ⊥

abbrev pub OnCircuit : Network → List ℤ → List Step → ℤ → Judged → Type 0
OnCircuit net x walk span (NotConserved node) = IsFirstFailing net.nodes (IsBalanced net x) node.0
OnCircuit net x walk span (OutOfCapacity arc) = IsConserved net («at» x) × IsFirstFailing (length net.arcs) (IsInCapacity net x) arc.0
OnCircuit net x walk span (NotCircuit number) = IsFeasibleFlow 1 net x × IsFault net walk number
OnCircuit net x walk span (Endless arc) =
    IsFeasibleFlow 1 net x × IsCircuit net walk
    × ((k : ℕ) × IsFirstEndless (length walk) (λ k. span_end net (step walk k)) k × (arc.0 ≡ (step walk k).arc.0))
OnCircuit net x walk span (WrongNumber stated right) =
    IsFeasibleFlow 1 net x × IsCircuit net walk × SpanCounts net walk × IsWrong span (span_sum net walk) stated right
OnCircuit net x walk span NotNegative =
    IsFeasibleFlow 1 net x × IsCircuit net walk × SpanCounts net walk × (span ≡ span_sum net walk) × (pos 0 ≤ℤ span)
OnCircuit net x walk span Accepted = IsFeasibleFlow 1 net x × IsNegativeCircuit net walk × (span ≡ span_sum net walk)
OnCircuit net x walk span verdict = ⊥

abbrev pub IsVerdict : Network → Certificate → Judged → Type 0
IsVerdict net (optimal x u cost value) verdict = OnPair net x u cost value verdict
IsVerdict net (cut side capacity) verdict = OnCut net side capacity verdict
IsVerdict net (circuit x walk span) verdict = OnCircuit net x walk span verdict
