use Rattle.std.proofs.Common.{◌≡◌, ◌+◌, ◌*◌, ◌≤◌, length, map}
use Rattle.painted_search.specs.Fits.{Fits}
use Rattle.feasible_flow.specs.ByLevels.{IsSettled, level_cost}
use Rattle.feasible_flow.proofs.passing.settle_levels.Given as goal

abbrev pub invariant-loop-done : goal.invariant-loop-done
invariant-loop-done g l = record {
  fits : Fits l.net l.work;
  settled : IsSettled l.net (map g.C.Monotone.items l.curves) l.done l.work.flows;
  potentials : l.work.potentials ≡ l.initial.work.potentials;
  no_fewer : l.initial.steps ≤ l.steps;
  count : l.steps ≤ l.initial.steps + l.done * level_cost l.net.nodes (length l.net.arcs) (length l.net.arcs);
}
