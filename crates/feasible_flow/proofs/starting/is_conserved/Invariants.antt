use Rattle.std.proofs.Common.{◌≡◌, ℕ, ◌<◌}
use Rattle.theory.specs.Network.{«at»}
use Rattle.theory.specs.Conserved.{outflow, inflow}
use Rattle.net_incidence.specs.Graph.{bare}
use Rattle.feasible_flow.proofs.starting.is_conserved.Given as goal

abbrev pub invariant-loop-i : goal.invariant-loop-i
invariant-loop-i l = (k : ℕ) → k < l.i → outflow (bare l.net) («at» l.flows) k ≡ inflow (bare l.net) («at» l.flows) k
