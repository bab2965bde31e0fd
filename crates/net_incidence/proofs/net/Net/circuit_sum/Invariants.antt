use Rattle.std.proofs.Common.{◌≡◌, ℕ, ◌<◌, ◌*◌, ◌^◌, map, pos, neg_ℤ, ◌≤ℤ◌}
use Rattle.theory.specs.Sums.{sum_below}
use Rattle.theory.specs.Ends.{IsFinite, whole}
use Rattle.theory.specs.Circuit.{step, span_end}
use Rattle.net_incidence.specs.Graph.{network}
use Rattle.net_incidence.proofs.net.Net.circuit_sum.Given as goal

abbrev pub invariant-loop-step : goal.invariant-loop-step
invariant-loop-step g l = record {
  finite : (k : ℕ) → k < l.step-index → IsFinite (span_end (network l.self (map g.C.Listed.listing l.curves)) (step l.walk k));
  total : l.sum ≡ sum_below l.step-index (λ k. whole (span_end (network l.self (map g.C.Listed.listing l.curves)) (step l.walk k)));
  low : neg_ℤ (pos (l.step-index * 2 ^ 63)) ≤ℤ l.sum;
  high : l.sum ≤ℤ pos (l.step-index * 2 ^ 63);
}
