use Rattle.std.proofs.Common.{◌≡◌, ℕ, ◌<◌}
use Rattle.theory.specs.Limits.{IsWithin}
use Rattle.theory.specs.Network.{«at»}
use Rattle.quick_start.specs.Drawn.{far, IsSameRoom}
use Rattle.quick_start.proofs.writing.write_potentials.Given as goal

abbrev pub invariant-loop-i : goal.invariant-loop-i
invariant-loop-i l = record {
  written : (k : ℕ) → k < l.i → IsWithin far («at» l.work.potentials k);
  same : IsSameRoom l.initial.work l.work;
  flows : l.work.flows ≡ l.initial.work.flows;
  labels : l.work.labels ≡ l.initial.work.labels;
  walk : l.work.walk ≡ l.initial.work.walk;
}
