-- Weak duality and optimal pairs. On each arc flow times tension is at most a cost plus a conjugate cost; over all arcs
-- the flow times the tension is 0 by the sum law, so minus the sum of the conjugate costs is at most the sum of the
-- costs. With Fenchel's inequality at one denominator that is weak duality. Let a pair lie on its curves. Then it is an
-- equation, and value and cost are equal. Any other flow, over any denominator, is compared with this pair's whole
-- tensions, and any other potential with its whole flows: no flow costs less and no potential has a greater value.
use Rattle.std.proofs.Common.{◌≡◌, ℕ, ◌<◌, ◌≤◌, ℤ, pos, ◌+ℤ◌, ◌*ℤ◌, neg_ℤ, ◌≤ℤ◌, length, arith}
use Rattle.std.proofs.lemmas.Int.{ints}
use Rattle.theory.specs.OnCurve.{IsOnCurve}
use Rattle.theory.specs.Domain.{InDomain}
use Rattle.theory.specs.Span.{InSpan}
use Rattle.theory.specs.Cost.{cost}
use Rattle.theory.specs.ConjugateCost.{conjugate_cost}
use Rattle.theory.specs.Network.{Network, IsNetwork, «at», curve, over_arcs}
use Rattle.theory.specs.Conserved.{IsConserved, tension}
use Rattle.theory.specs.Totals.{total_cost, total_value}
use Rattle.theory.specs.NetworkLaws.{WeakDualityLaw, OptimalPairLaw}
use Rattle.theory.proofs.Rings.{rings, scale_cancel}
use Rattle.theory.proofs.SumsBelow.{sum_below-same, sum_below-add, sum_below-mul, sum_below-order}
use Rattle.theory.proofs.SumLaw.{sum_law}
use Rattle.theory.proofs.Fenchel.{fenchel}
use Rattle.theory.proofs.Equality.{fenchel_equality}
use Rattle.theory.proofs.Whole.{whole_flow, whole_tension}

-- where each arc's flow times tension is at most a + b, the sum of a is at least minus that of b
pub by_arcs : (net : Network) (x u a b : ℕ → ℤ) → IsNetwork net → IsConserved net x
    → ((j : ℕ) → j < length net.arcs → (x j *ℤ tension net u j) ≤ℤ (a j +ℤ b j)) → neg_ℤ (over_arcs net b) ≤ℤ over_arcs net a
by_arcs net x u a b good conserved h =
    let law = sum_law net x u good conserved in
    let bound = sum_below-order (length net.arcs) (λ j. x j *ℤ tension net u j) (λ j. a j +ℤ b j) h in
    let apart = sum_below-add (length net.arcs) a b in
    omega (arith, ints)

-- and where it is equal, so are they
pub by_arcs-equal : (net : Network) (x u a b : ℕ → ℤ) → IsNetwork net → IsConserved net x
    → ((j : ℕ) → j < length net.arcs → a j +ℤ b j ≡ x j *ℤ tension net u j) → over_arcs net a ≡ neg_ℤ (over_arcs net b)
by_arcs-equal net x u a b good conserved h =
    let law = sum_law net x u good conserved in
    let same = sum_below-same (length net.arcs) (λ j. a j +ℤ b j) (λ j. x j *ℤ tension net u j) h in
    let apart = sum_below-add (length net.arcs) a b in
    omega (arith, ints)

pub weak_duality : WeakDualityLaw
weak_duality net q x u q_pos good flow potential =
    let costs = λ (j : ℕ). cost q (curve net j) («at» x j) in
    let conjugates = λ (j : ℕ). conjugate_cost q (curve net j) (tension net («at» u) j) in
    let law = by_arcs net («at» x) («at» u) (λ j. pos q *ℤ costs j) (λ j. pos q *ℤ conjugates j) good flow.conserved
    (λ j l. fenchel q (curve net j) («at» x j) (tension net («at» u) j)
    (good.curve_lists j l) (flow.in_domains j l) (potential.in_spans j l)) in
    let left = sum_below-mul (length net.arcs) (pos q) costs in
    let right = sum_below-mul (length net.arcs) (pos q) conjugates in
    scale_cancel q (neg_ℤ (over_arcs net conjugates)) (over_arcs net costs) q_pos (omega (arith, rings))

-- every pair on its curve
abbrev pub AllOnCurves : Network → (ℕ → ℤ) → (ℕ → ℤ) → Type 0
AllOnCurves net x u = (j : ℕ) → j < length net.arcs → IsOnCurve 1 (curve net j).items (x j) (tension net u j)

pub optimal-equal : (net : Network) (x u : ℕ → ℤ) → IsNetwork net → IsConserved net x → AllOnCurves net x u
    → total_cost 1 net x ≡ total_value 1 net u
optimal-equal net x u good conserved on_curves =
    by_arcs-equal net x u
    (λ j. cost 1 (curve net j) (x j))
    (λ j. conjugate_cost 1 (curve net j) (tension net u j))
    good conserved
    (λ j l. let e = (fenchel_equality 1 (curve net j) (x j) (tension net u j) (omega arith) (good.curve_lists j l)).equal (on_curves j l) in omega (arith, ints))

-- the value of whole potentials, times q, is at most the cost of every flow over q
pub value_below : (net : Network) (x u : ℕ → ℤ) (q : ℕ) (p : ℕ → ℤ) → 1 ≤ q → IsNetwork net
    → AllOnCurves net x u → IsConserved net p → ((j : ℕ) → j < length net.arcs → InDomain q (curve net j).items (p j))
    → (pos q *ℤ total_value 1 net u) ≤ℤ total_cost q net p
value_below net x u q p q_pos good on_curves conserved in_domains =
    let conjugates = λ (j : ℕ). conjugate_cost 1 (curve net j) (tension net u j) in
    let law = by_arcs net p u (λ j. cost q (curve net j) (p j)) (λ j. pos q *ℤ conjugates j) good conserved
    (λ j l. whole_tension q (curve net j) (p j) (tension net u j) q_pos (good.curve_lists j l) (in_domains j l)
    ((fenchel_equality 1 (curve net j) (x j) (tension net u j) (omega arith) (good.curve_lists j l)).in_span (on_curves j l))) in
    let right = sum_below-mul (length net.arcs) (pos q) conjugates in
    omega (arith, rings)

-- the cost of a whole flow, times q, is at least the value of every potential over q
pub cost_above : (net : Network) (x u : ℕ → ℤ) (q : ℕ) (w : ℕ → ℤ) → 1 ≤ q → IsNetwork net
    → AllOnCurves net x u → IsConserved net x → ((j : ℕ) → j < length net.arcs → InSpan q (curve net j).items (tension net w j))
    → total_value q net w ≤ℤ (pos q *ℤ total_cost 1 net x)
cost_above net x u q w q_pos good on_curves conserved in_spans =
    let costs = λ (j : ℕ). cost 1 (curve net j) (x j) in
    let law = by_arcs net x w (λ j. pos q *ℤ costs j) (λ j. conjugate_cost q (curve net j) (tension net w j)) good conserved
    (λ j l. whole_flow q (curve net j) (x j) (tension net w j) q_pos (good.curve_lists j l) (on_curves j l).in_domain (in_spans j l)) in
    let left = sum_below-mul (length net.arcs) (pos q) costs in
    omega (arith, rings)

pub optimal_pair : OptimalPairLaw
optimal_pair net x u good conserved on_curves =
    let same = optimal-equal net («at» x) («at» u) good conserved on_curves in
    record {
      equal = same;
      least = λ q p q_pos flow. rw same (value_below net («at» x) («at» u) q («at» p) q_pos good on_curves flow.conserved flow.in_domains);
      greatest = λ q w q_pos potential. rw (← same) (cost_above net («at» x) («at» u) q («at» w) q_pos good on_curves conserved potential.in_spans);
    }
