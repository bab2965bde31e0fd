use Rattle.std.proofs.Common.{◌≡◌, ℕ, ◌<◌, pos}
use Rattle.theory.specs.Network.{«at»}
use Rattle.theory.specs.Conserved.{divergence}
use Rattle.net_incidence.specs.Graph.{bare}
use Rattle.kilter_solver.proofs.kilter_test.is_in_kilter.Given as goal

abbrev pub invariant-loop-i : goal.invariant-loop-i
invariant-loop-i g l = record { balanced : (k : ℕ) → k < l.i → divergence (bare l.net) («at» l.work.flows) k ≡ pos 0 }
