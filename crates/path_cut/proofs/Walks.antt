-- Walks: potentials along them, and paths that a return closes.
use Rattle.std.proofs.Common.{◌≡◌, ◌≢◌, ℕ, suc, ◌+◌, ◌<◌, ℤ, pos, ◌-ℤ◌, ◌*ℤ◌, ◌≤ℤ◌, Bool, true, false, if◌then◌else◌, List, [], ◌∷◌, length, refl, ap, arith}
use Rattle.std.proofs.lemmas.Int.{ints}
use Rattle.theory.specs.declared.ext.Ext.{Ext}
use Rattle.theory.specs.declared.colour.Colour.{Colour}
use Rattle.theory.specs.declared.colour.Colour.TheVariants.{Green}
use Rattle.theory.specs.declared.network.Step.{Step}
use Rattle.theory.specs.Sums.{sum_over, Each}
use Rattle.theory.specs.Ends.{IsFinite, whole, negated, IsBetween}
use Rattle.theory.specs.Span.{span_low, span_high, InSpan}
use Rattle.theory.specs.Network.{Network, tail, head, curve}
use Rattle.theory.specs.Conserved.{tension}
use Rattle.theory.specs.Circuit.{step, begin_of, end_of, IsCircuit, WalkIsThere, span_end, SpanCounts}
use Rattle.theory.proofs.Refusals.{at_most_end, at_least_end}
use Rattle.net_incidence.specs.Incidence.{over}
use Rattle.painted_search.specs.Path.{IsFreePath}
use Rattle.feasible_flow.proofs.PathClosesCircuit.{closes-path}
use Rattle.path_cut.specs.Paths.{IsPath}

-- ---- paths

pub path-free : (net : Network) (walk : List Step) (from to : ℕ) → IsPath net walk from to → IsFreePath net (λ j. Green) walk from to
path-free net walk from to path = record {
  not_empty = path.not_empty;
  there = path.there;
  free = λ k l. refl;
  begins = path.begins;
  joined = path.joined;
  ends = path.ends;
  begins_differ = path.begins_differ;
  ends_differ = path.ends_differ;
  arcs_differ = path.arcs_differ;
}

pub free-path : (net : Network) (colours : ℕ → Colour) (walk : List Step) (from to : ℕ) → IsFreePath net colours walk from to
    → IsPath net walk from to
free-path net colours walk from to path = record {
  not_empty = path.not_empty;
  there = path.there;
  begins = path.begins;
  joined = path.joined;
  ends = path.ends;
  begins_differ = path.begins_differ;
  ends_differ = path.ends_differ;
  arcs_differ = path.arcs_differ;
}

-- a path over arcs below number m from the head of arc m to its tail, closed by this arc
pub closed-by : (net : Network) (walk : List Step) (m : ℕ) → tail net m ≢ head net m → IsPath net walk (head net m) (tail net m)
    → ((k : ℕ) → k < length walk → (step walk k).arc.0 < m) → IsCircuit net (over m true ∷ walk)
closed-by net walk m apart path below =
    closes-path net (λ j. Green) walk (over m true) (λ same. apart (ap_sym same))
    (λ k l same. let b = below k l in absurd (omega arith)) (path-free net walk (head net m) (tail net m) path)
  where
    ap_sym : head net m ≡ tail net m → tail net m ≡ head net m
    ap_sym e = rw e refl

-- ---- potentials

-- along a joined walk the differences add up to the difference of its ends
pub differences : (net : Network) (u : ℕ → ℤ) (s : Step) (walk : List Step)
    → ((k : ℕ) → k + 1 < length (s ∷ walk) → end_of net (step (s ∷ walk) k) ≡ begin_of net (step (s ∷ walk) (k + 1)))
    → sum_over (λ t. u (end_of net t) -ℤ u (begin_of net t)) (s ∷ walk)
    ≡ u (end_of net (step (s ∷ walk) (length walk))) -ℤ u (begin_of net s)
differences net u s [] joined = omega (arith, ints)
differences net u s (t ∷ walk) joined =
    let rest = differences net u t walk (λ k l. let e : suc k + 1 ≡ suc (k + 1) = omega arith in rw e at (joined (suc k) (omega arith))) in
    let meet : end_of net s ≡ begin_of net t = joined 0 (omega arith) in
    let same : u (end_of net s) ≡ u (begin_of net t) = ap u meet in
    omega (arith, ints)

-- a step's difference is at most q times what the step adds to the span sum
step-below : (q : ℕ) (u : ℕ → ℤ) (from to : ℕ) (low high : Ext) (forward : Bool) → IsBetween q low high (u to -ℤ u from)
    → IsFinite (if forward then high else (negated low))
    → (u (if forward then to else from) -ℤ u (if forward then from else to)) ≤ℤ (pos q *ℤ whole (if forward then high else (negated low)))
step-below q u from to low high true between finite = at_most_end q high (u to -ℤ u from) finite between.most
step-below q u from to low high false between finite =
    let e = at_least_end q low (u to -ℤ u from) finite between.least in omega (arith, ints)

pub steps-below : (net : Network) (q : ℕ) (u : ℕ → ℤ) (walk : List Step)
    → ((j : ℕ) → j < length net.arcs → InSpan q (curve net j).items (tension net u j)) → WalkIsThere net walk → SpanCounts net walk
    → Each (λ t. (u (end_of net t) -ℤ u (begin_of net t)) ≤ℤ (pos q *ℤ whole (span_end net t))) walk
steps-below net q u [] in_spans there counts = tt
steps-below net q u (s ∷ walk) in_spans there counts = (
  step-below q u (tail net s.arc.0) (head net s.arc.0)
      (span_low (curve net s.arc.0).items) (span_high (curve net s.arc.0).items) s.forward
      (in_spans s.arc.0 (there 0 (omega arith))) counts.0,
  steps-below net q u walk in_spans (λ k l. there (suc k) (omega arith)) counts.1,
)
