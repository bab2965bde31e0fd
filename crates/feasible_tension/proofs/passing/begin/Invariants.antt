use Rattle.std.proofs.Common.{◌≡◌, ℕ, ◌<◌, pos, None}
use Rattle.theory.specs.Network.{«at»}
use Rattle.painted_search.specs.Path.{label_at}
use Rattle.feasible_tension.specs.Kept.{IsKept}
use Rattle.feasible_tension.proofs.passing.begin.Given as goal

abbrev pub invariant-loop-node : goal.invariant-loop-node
invariant-loop-node l = record {
  zero : (i : ℕ) → i < l.node → «at» l.work.potentials i ≡ pos 0;
  unlabelled : (i : ℕ) → label_at l.work.labels i ≡ None;
  kept : IsKept l.fn.work l.work;
}
