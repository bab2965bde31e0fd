use Rattle.std.proofs.Common.{◌≡◌, ℕ, ◌<◌}
use Rattle.theory.specs.Limits.{IsWithin}
use Rattle.theory.specs.Network.{«at»}
use Rattle.quick_start.specs.Drawn.{far, IsSameRoom}
use Rattle.quick_start.proofs.writing.write_flows.Given as goal

abbrev pub invariant-loop-j : goal.invariant-loop-j
invariant-loop-j l = record {
  written : (k : ℕ) → k < l.j → IsWithin far («at» l.work.flows k);
  same : IsSameRoom l.initial.work l.work;
  labels : l.work.labels ≡ l.initial.work.labels;
  walk : l.work.walk ≡ l.initial.work.walk;
}
