-- Refusals. A negative cut: a feasible flow over q is at most q times the upper end on each arc that leaves the set and
-- at least q times the lower end on each that enters it, so the net flow across is at most q times the cut sum, which is
-- negative; but nothing conserved crosses a set on the whole. A negative circuit: along the circuit the potential
-- differences add up to 0, and each is at most q times what the step adds to the span sum, which is negative.
use Rattle.std.proofs.Common.{◌≡◌, ℕ, suc, ◌+◌, ◌<◌, ℤ, pos, ◌-ℤ◌, ◌*ℤ◌, neg_ℤ, ◌≤ℤ◌, Bool, true, false, not, ◌&&◌, if◌then◌else◌, List, [], ◌∷◌, length, refl, ap, arith}
use Rattle.std.proofs.lemmas.Int.{ints}
use Rattle.theory.specs.declared.ext.Ext.{Ext}
use Rattle.theory.specs.declared.ext.Ext.TheVariants.{MinusInf, At, PlusInf}
use Rattle.theory.specs.declared.network.Step.{Step}
use Rattle.theory.specs.Sums.{sum_over, Each, counted}
use Rattle.theory.specs.Ends.{IsFinite, whole, negated, IsAtLeast, IsAtMost, IsBetween}
use Rattle.theory.specs.CurveList.{first, last}
use Rattle.theory.specs.Span.{span_low, span_high, InSpan}
use Rattle.theory.specs.Network.{Network, «at», tail, head, curve}
use Rattle.theory.specs.Conserved.{tension}
use Rattle.theory.specs.Cut.{holds, cut_end, cut_sum}
use Rattle.theory.specs.Circuit.{step, begin_of, end_of, IsCircuit, WalkIsThere, span_end, span_sum, SpanCounts}
use Rattle.theory.specs.NetworkLaws.{NegativeCutLaw, NegativeCircuitLaw}
use Rattle.theory.proofs.Rings.{rings, scale_strict}
use Rattle.theory.proofs.Sums.{sum_over-scale, sum_over-order}
use Rattle.theory.proofs.SumsBelow.{sum_below-mul, sum_below-order}
use Rattle.theory.proofs.SumLaw.{crossing, cut_law-conserved}

-- ---- a finite end bounds

pub at_most_end : (q : ℕ) (e : Ext) (x : ℤ) → IsFinite e → IsAtMost q e x → x ≤ℤ (pos q *ℤ whole e)
at_most_end q MinusInf x finite h = let e : false ≡ true = finite in cc
at_most_end q (At a) x finite h = h
at_most_end q PlusInf x finite h = let e : false ≡ true = finite in cc

pub at_least_end : (q : ℕ) (e : Ext) (x : ℤ) → IsFinite (negated e) → IsAtLeast q e x → neg_ℤ x ≤ℤ (pos q *ℤ whole (negated e))
at_least_end q MinusInf x finite h = let e : false ≡ true = finite in cc
at_least_end q (At a) x finite h = omega (arith, rings, h)
at_least_end q PlusInf x finite h = let e : false ≡ true = finite in cc

-- ---- cuts

-- what crosses on an arc, by whether the set holds its tail and its head
crossing_below : (q : ℕ) (low high : Ext) (x : ℤ) (at_tail at_head : Bool) → IsBetween q low high x
    → IsFinite (if at_tail && not at_head then high else (if not at_tail && at_head then negated low else (At (pos 0))))
    → (counted (at_tail && not at_head) x -ℤ counted (not at_tail && at_head) x)
    ≤ℤ (pos q *ℤ whole (if at_tail && not at_head then high else (if not at_tail && at_head then negated low else (At (pos 0)))))
crossing_below q low high x true true between finite = omega (arith, ints)
crossing_below q low high x true false between finite = let e = at_most_end q high x finite between.most in omega (arith, ints)
crossing_below q low high x false true between finite = let e = at_least_end q low x finite between.least in omega (arith, ints)
crossing_below q low high x false false between finite = omega (arith, ints)

pub negative_cut : NegativeCutLaw
negative_cut net side good cut q x q_pos flow =
    let none = cut_law-conserved net (holds side) («at» x) good flow.conserved in
    let bound = sum_below-order (length net.arcs) (crossing net (holds side) («at» x)) (λ j. pos q *ℤ whole (cut_end net side j))
    (λ j l. crossing_below q (first (curve net j).items) (last (curve net j).items) («at» x j)
    (holds side (tail net j)) (holds side (head net j)) (flow.in_domains j l) (cut.counts j l)) in
    let total = sum_below-mul (length net.arcs) (pos q) (λ j. whole (cut_end net side j)) in
    let strict = scale_strict q (cut_sum net side) (pos 0) q_pos cut.negative in
    absurd (omega (arith, ints))

-- ---- circuits

-- along a joined walk the differences add up to the difference of its ends
differences : (net : Network) (u : ℕ → ℤ) (s : Step) (walk : List Step)
    → ((k : ℕ) → k + 1 < length (s ∷ walk) → end_of net (step (s ∷ walk) k) ≡ begin_of net (step (s ∷ walk) (k + 1)))
    → sum_over (λ t. u (end_of net t) -ℤ u (begin_of net t)) (s ∷ walk)
    ≡ u (end_of net (step (s ∷ walk) (length walk))) -ℤ u (begin_of net s)
differences net u s [] joined = omega (arith, ints)
differences net u s (t ∷ walk) joined =
    let rest = differences net u t walk (λ k l. let e : suc k + 1 ≡ suc (k + 1) = omega arith in rw e at (joined (suc k) (omega arith))) in
    let meet : end_of net s ≡ begin_of net t = joined 0 (omega arith) in
    let same : u (end_of net s) ≡ u (begin_of net t) = ap u meet in
    omega (arith, ints)

pub around : (net : Network) (u : ℕ → ℤ) (walk : List Step) → IsCircuit net walk
    → sum_over (λ t. u (end_of net t) -ℤ u (begin_of net t)) walk ≡ pos 0
around net u [] circuit = absurd (omega (arith, circuit.not_empty))
around net u (s ∷ walk) circuit =
    let all = differences net u s walk circuit.joined in
    let meet : end_of net (step (s ∷ walk) (length walk)) ≡ begin_of net s = circuit.closed (length walk) (omega arith) in
    let same : u (end_of net (step (s ∷ walk) (length walk))) ≡ u (begin_of net s) = ap u meet in
    omega (arith, ints)

-- a step's difference is at most q times what the step adds to the span sum
step_below : (q : ℕ) (u : ℕ → ℤ) (from to : ℕ) (low high : Ext) (forward : Bool) → IsBetween q low high (u to -ℤ u from)
    → IsFinite (if forward then high else (negated low))
    → (u (if forward then to else from) -ℤ u (if forward then from else to)) ≤ℤ (pos q *ℤ whole (if forward then high else (negated low)))
step_below q u from to low high true between finite = at_most_end q high (u to -ℤ u from) finite between.most
step_below q u from to low high false between finite =
    let e = at_least_end q low (u to -ℤ u from) finite between.least in omega (arith, ints)

steps_below : (net : Network) (q : ℕ) (u : ℕ → ℤ) (walk : List Step)
    → ((j : ℕ) → j < length net.arcs → InSpan q (curve net j).items (tension net u j)) → WalkIsThere net walk → SpanCounts net walk
    → Each (λ t. (u (end_of net t) -ℤ u (begin_of net t)) ≤ℤ (pos q *ℤ whole (span_end net t))) walk
steps_below net q u [] in_spans there counts = tt
steps_below net q u (s ∷ walk) in_spans there counts = (
  step_below q u (tail net s.arc.0) (head net s.arc.0)
      (span_low (curve net s.arc.0).items) (span_high (curve net s.arc.0).items) s.forward
      (in_spans s.arc.0 (there 0 (omega arith))) counts.0,
  steps_below net q u walk in_spans (λ k l. there (suc k) (omega arith)) counts.1,
)

pub negative_circuit : NegativeCircuitLaw
negative_circuit net walk good there circuit q u q_pos potential =
    let none = around net («at» u) walk circuit.circuit in
    let bound = sum_over-order
    (λ t. «at» u (end_of net t) -ℤ «at» u (begin_of net t)) (λ t. pos q *ℤ whole (span_end net t)) walk
    (steps_below net q («at» u) walk potential.in_spans there circuit.counts) in
    let total = sum_over-scale (pos q) (λ t. pos q *ℤ whole (span_end net t)) (λ t. whole (span_end net t)) walk (λ t. refl) in
    let strict = scale_strict q (span_sum net walk) (pos 0) q_pos circuit.negative in
    absurd (omega (arith, ints))
