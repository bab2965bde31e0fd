use Rattle.std.proofs.Common.{ℕ, ◌<◌}
use Rattle.theory.specs.Network.{«at»}
use Rattle.net_incidence.specs.Graph.{bare}
use Rattle.flow_pieces.specs.Unbalanced.{IsBalanced}
use Rattle.flow_pieces.proofs.splitting.first_unbalanced.Given as goal

abbrev pub invariant-loop-i : goal.invariant-loop-i
invariant-loop-i l = (k : ℕ) → k < l.i → IsBalanced (bare l.net) («at» l.x) k
