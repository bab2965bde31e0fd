use Rattle.std.proofs.Common.{◌≡◌, ℕ, ◌+◌, ◌*◌, ◌<◌, ◌≤◌, map}
use Rattle.theory.specs.Sums.{sum_below}
use Rattle.theory.specs.Ends.{IsFinite, whole}
use Rattle.theory.specs.Limits.{IsWithin}
use Rattle.theory.specs.Cut.{cut_end}
use Rattle.net_incidence.specs.WithoutBases.{without_bases}
use Rattle.kilter_solver.specs.Ranges.{end_most}
use Rattle.kilter_solver.proofs.cut_test.is_negative_cut.Given as goal

abbrev pub invariant-loop-j : goal.invariant-loop-j
invariant-loop-j g l = record {
  finite : (k : ℕ) → k < l.j → IsFinite (cut_end (without_bases l.net (map g.C.Monotone.items l.curves)) l.work.reached k);
  total : l.sum ≡ sum_below l.j (λ k. whole (cut_end (without_bases l.net (map g.C.Monotone.items l.curves)) l.work.reached k));
  within : IsWithin (l.j * end_most) l.sum;
  no_fewer : l.initial.steps ≤ l.steps;
  count : l.steps ≤ l.initial.steps + l.j;
}
