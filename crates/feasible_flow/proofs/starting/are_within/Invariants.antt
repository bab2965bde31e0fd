use Rattle.std.proofs.Common.{ℕ, ◌<◌}
use Rattle.theory.specs.Network.{«at»}
use Rattle.theory.specs.Limits.{IsWithin}
use Rattle.feasible_flow.proofs.starting.are_within.Given as goal

abbrev pub invariant-loop-flow : goal.invariant-loop-flow
invariant-loop-flow l = (k : ℕ) → k < l.flow-index → IsWithin l.fn.most («at» l.flows k)
