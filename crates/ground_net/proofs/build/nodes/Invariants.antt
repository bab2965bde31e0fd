use Rattle.std.proofs.Common.{◌≡◌, []}
use Rattle.ground_net.proofs.build.nodes.Given as goal

abbrev pub invariant-loop-node : goal.invariant-loop-node
invariant-loop-node l = record { nodes : l.net.nodes ≡ l._node; arcs : l.net.arcs ≡ [] }
