use Rattle.std.proofs.Common.{◌≡◌, ℕ, ◌<◌, ◌≤◌, ◌+ℤ◌}
use Rattle.theory.specs.Network.{«at»}
use Rattle.kilter_solver.specs.Gaps.{HasHeight}
use Rattle.kilter_solver.proofs.gaps.replace.Given as goal

abbrev pub invariant-loop-word : goal.invariant-loop-word
invariant-loop-word l =
    ((k : ℕ) → k < l.word-index → HasHeight l.values l.heights («at» l.fn.words k) («at» l.words k +ℤ l.ground))
    × ((k : ℕ) → l.word-index ≤ k → «at» l.words k ≡ «at» l.fn.words k)
