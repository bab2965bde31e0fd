use Rattle.std.proofs.Common.{◌≡◌}
use Rattle.quick_start.specs.Drawn.{IsSameRoom}
use Rattle.quick_start.proofs.writing.mark_low.Given as goal

abbrev pub invariant-loop-i : goal.invariant-loop-i
invariant-loop-i l = record {
  same : IsSameRoom l.initial.work l.work;
  labels : l.work.labels ≡ l.initial.work.labels;
  walk : l.work.walk ≡ l.initial.work.walk;
}
