use Rattle.std.proofs.Common.{ℕ, ◌<◌}
use Rattle.theory.specs.Limits.{IsWithin}
use Rattle.theory.specs.Network.{«at»}
use Rattle.flow_pieces.proofs.tests.are_small.Given as goal

abbrev pub invariant-loop-flow : goal.invariant-loop-flow
invariant-loop-flow l = (k : ℕ) → k < l.flow-index → IsWithin 1000 («at» l.x k)
