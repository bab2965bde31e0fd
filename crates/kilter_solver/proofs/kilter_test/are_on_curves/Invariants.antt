use Rattle.std.proofs.Common.{ℕ, ◌+◌, ◌<◌, ◌≤◌, map}
use Rattle.theory.specs.OnCurve.{IsOnCurve}
use Rattle.theory.specs.Network.{«at», list_at}
use Rattle.theory.specs.Conserved.{tension}
use Rattle.net_incidence.specs.Graph.{bare}
use Rattle.kilter_solver.proofs.kilter_test.are_on_curves.Given as goal

abbrev pub invariant-loop-j : goal.invariant-loop-j
invariant-loop-j g l = record {
  pairs : (k : ℕ) → k < l.j
      → IsOnCurve 1 (list_at (map g.C.Monotone.items l.curves) k) («at» l.work.flows k) (tension (bare l.net) («at» l.work.potentials) k);
  no_fewer : l.initial.steps ≤ l.steps;
  count : l.steps ≤ l.initial.steps + l.j;
}
