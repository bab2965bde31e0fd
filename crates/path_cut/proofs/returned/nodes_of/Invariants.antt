use Rattle.std.proofs.Common.{◌≡◌, []}
use Rattle.path_cut.proofs.returned.nodes_of.Given as goal

abbrev pub invariant-loop-node : goal.invariant-loop-node
invariant-loop-node l = record { nodes : l.copy.nodes ≡ l._node; arcs : l.copy.arcs ≡ [] }
