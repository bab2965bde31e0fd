-- A path bounds every tension: along it the differences of a feasible potential over q add up to its rise from the first node to the
-- last, and each is at most q times the end that the step adds to the span sum.
use Rattle.std.proofs.Common.{ℕ, ℤ, pos, ◌-ℤ◌, ◌*ℤ◌, ◌≤ℤ◌, List, [], ◌∷◌, length, refl, ap, arith}
use Rattle.std.proofs.lemmas.Int.{ints}
use Rattle.theory.specs.declared.network.Step.{Step}
use Rattle.theory.specs.Ends.{whole}
use Rattle.theory.specs.Network.{Network, «at»}
use Rattle.theory.specs.Circuit.{begin_of, end_of, span_end}
use Rattle.theory.proofs.Sums.{sum_over-scale, sum_over-order}
use Rattle.path_cut.specs.GreatestTension.{IsTensionBound, IsGreatestTension, IsPathOf}
use Rattle.path_cut.specs.TensionLaws.{TensionPathLaw, TensionExactLaw}
use Rattle.path_cut.proofs.Walks.{differences, steps-below}

pub path-bound : (net : Network) (walk : List Step) (from to : ℕ) (t : ℤ) → IsPathOf net walk from to t → IsTensionBound net from to t
path-bound net [] from to t path q w some potential = absurd (omega (arith, path.path.not_empty))
path-bound net (s ∷ walk) from to t path q w some potential =
    let all = differences net («at» w) s walk path.path.joined in
    let ends = ap («at» w) (path.path.ends (length walk) (omega arith)) in
    let begins = ap («at» w) path.path.begins in
    let bound = sum_over-order
    (λ r. «at» w (end_of net r) -ℤ «at» w (begin_of net r)) (λ r. pos q *ℤ whole (span_end net r)) (s ∷ walk)
    (steps-below net q («at» w) (s ∷ walk) potential.in_spans path.path.there path.counts) in
    let total = sum_over-scale (pos q) (λ r. pos q *ℤ whole (span_end net r)) (λ r. whole (span_end net r)) (s ∷ walk) (λ r. refl) in
    rw (← path.sum) (omega (arith, ints))

pub tension-path : TensionPathLaw
tension-path net walk from to u t potential is path = record { reached = (u, potential, is); most = path-bound net walk from to t path }

at-most : (net : Network) (from to : ℕ) (s t : ℤ) → IsGreatestTension net from to s → IsTensionBound net from to t → s ≤ℤ t
at-most net from to s t top bound =
    let reached = top.reached in
    let is = reached.2 in
    let most = bound 1 reached.0 (omega arith) reached.1 in
    omega (arith, ints)

pub tension-exact : TensionExactLaw
tension-exact net from to = record {
  one = λ s t a b. let up = at-most net from to s t a b.most in let down = at-most net from to t s b a.most in omega (arith, ints);
  not_both = λ t top none.
      let above = none t in
      let beyond = above.2 in
      let most = top.most 1 above.0 (omega arith) above.1 in
      absurd (omega (arith, ints));
}
