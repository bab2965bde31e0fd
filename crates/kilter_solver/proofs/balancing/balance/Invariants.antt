use Rattle.std.proofs.Common.{◌+◌, ◌*◌, ◌≤◌, length, map}
use Rattle.theory.specs.Limits.{level_most}
use Rattle.kilter_solver.specs.Leveling.{IsLeveled, level_share}
use Rattle.kilter_solver.proofs.balancing.balance.Given as goal

abbrev pub invariant-loop-done : goal.invariant-loop-done
invariant-loop-done g l = record {
  leveled : IsLeveled l.net (map g.C.Monotone.items l.curves) level_most l.done l.work;
  no_fewer : l.fn.steps ≤ l.steps;
  count : l.steps ≤ l.fn.steps + l.done * level_share (length l.net.arcs);
}
