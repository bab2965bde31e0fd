use Rattle.std.proofs.Common.{◌≡◌, ℕ, ◌<◌, ◌*◌, ◌^◌, map, pos, neg_ℤ, ◌≤ℤ◌}
use Rattle.theory.specs.Sums.{sum_below}
use Rattle.theory.specs.Ends.{IsFinite, whole}
use Rattle.theory.specs.Cut.{cut_end}
use Rattle.net_incidence.specs.Graph.{network}
use Rattle.net_incidence.proofs.net.Net.cut_sum.Given as goal

abbrev pub invariant-loop-j : goal.invariant-loop-j
invariant-loop-j g l = record {
  finite : (k : ℕ) → k < l.j → IsFinite (cut_end (network l.self (map g.C.Listed.listing l.curves)) l.side k);
  total : l.sum ≡ sum_below l.j (λ k. whole (cut_end (network l.self (map g.C.Listed.listing l.curves)) l.side k));
  low : neg_ℤ (pos (l.j * 2 ^ 63)) ≤ℤ l.sum;
  high : l.sum ≤ℤ pos (l.j * 2 ^ 63);
}
