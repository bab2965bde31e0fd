use Rattle.std.proofs.Common.{◌≡◌, ℕ, ◌<◌, ◌≤◌}
use Rattle.theory.specs.Network.{«at»}
use Rattle.path_cut.specs.Lifting.{lifted}
use Rattle.path_cut.specs.Climbing.{IsSameButPotentials}
use Rattle.path_cut.proofs.raising.raise.Given as goal

abbrev pub invariant-loop-i : goal.invariant-loop-i
invariant-loop-i l = record {
  lifts : (k : ℕ) → k < l.i → «at» l.work.potentials k ≡ lifted l.fn.amount l.initial.work.reached l.initial.work.potentials k;
  still : (k : ℕ) → l.i ≤ k → «at» l.work.potentials k ≡ «at» l.initial.work.potentials k;
  same : IsSameButPotentials l.initial.work l.work;
}
