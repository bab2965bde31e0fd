-- Walk, circuit, span sum. A walk is a list of steps over arcs, forward or backward. A circuit is a closed walk that
-- begins from no node twice and passes no arc twice. The span sum of a walk is the upper span ends of its forward arcs
-- less the lower span ends of its backward arcs (Rockafellar: the span of a path). It counts where all these ends are finite.
use Rattle.std.specs.Prelude.{◌≡◌, ◌≢◌, ℕ, ◌+◌, ◌<◌, ℤ, pos, ◌<ℤ◌, Bool, false, if◌then◌else◌, List, length, slice_index_or}
use Rattle.theory.specs.declared.ext.Ext.{Ext}
use Rattle.theory.specs.declared.network.Step.{Step}
use Rattle.theory.specs.Sums.{sum_over, Each}
use Rattle.theory.specs.Ends.{IsFinite, whole, negated}
use Rattle.theory.specs.Span.{span_low, span_high}
use Rattle.theory.specs.Network.{Network, tail, head, curve}

abbrev pub step : List Step → ℕ → Step
step walk k = slice_index_or walk k (record { arc = record { 0 = 0 }; forward = false })

-- the node that a step begins from, and the node that it ends at
abbrev pub begin_of : Network → Step → ℕ
begin_of net s = if s.forward then tail net s.arc.0 else head net s.arc.0

abbrev pub end_of : Network → Step → ℕ
end_of net s = if s.forward then head net s.arc.0 else tail net s.arc.0

pub record IsCircuit (net : Network) (walk : List Step) : Type 0 where
  pub not_empty : 0 < length walk
  pub joined : (k : ℕ) → k + 1 < length walk → end_of net (step walk k) ≡ begin_of net (step walk (k + 1))
  pub closed : (k : ℕ) → k + 1 ≡ length walk → end_of net (step walk k) ≡ begin_of net (step walk 0)
  pub nodes_differ : (i k : ℕ) → i < k → k < length walk → begin_of net (step walk i) ≢ begin_of net (step walk k)
  pub arcs_differ : (i k : ℕ) → i < k → k < length walk → (step walk i).arc.0 ≢ (step walk k).arc.0

-- the walk's arcs are there
abbrev pub WalkIsThere : Network → List Step → Type 0
WalkIsThere net walk = (k : ℕ) → k < length walk → (step walk k).arc.0 < length net.arcs

-- the end that a curve adds to the sum, by the direction of the step
abbrev pub passing_end : List Ext → Bool → Ext
passing_end items forward = if forward then span_high items else (negated (span_low items))

-- what a step adds to the sum
abbrev pub span_end : Network → Step → Ext
span_end net s = passing_end (curve net s.arc.0).items s.forward

abbrev pub SpanCounts : Network → List Step → Type 0
SpanCounts net walk = Each (λ s. IsFinite (span_end net s)) walk

abbrev pub span_sum : Network → List Step → ℤ
span_sum net walk = sum_over (λ s. whole (span_end net s)) walk

pub record IsNegativeCircuit (net : Network) (walk : List Step) : Type 0 where
  pub circuit : IsCircuit net walk
  pub counts : SpanCounts net walk
  pub negative : span_sum net walk <ℤ pos 0
