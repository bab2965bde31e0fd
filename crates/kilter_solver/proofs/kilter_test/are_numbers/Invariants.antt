use Rattle.std.proofs.Common.{ℕ, ◌<◌}
use Rattle.theory.specs.Limits.{flow_most, IsWithin}
use Rattle.theory.specs.Network.{«at»}
use Rattle.kilter_solver.proofs.kilter_test.are_numbers.Given as goal

abbrev pub invariant-loop-number : goal.invariant-loop-number
invariant-loop-number l = record { within : (k : ℕ) → k < l.number-index → IsWithin flow_most («at» l.numbers k) }
