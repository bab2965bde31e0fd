use Rattle.std.proofs.Common.{◌≡◌, take}
use Rattle.path_cut.proofs.returned.add_arcs.Given as goal

abbrev pub invariant-loop-j : goal.invariant-loop-j
invariant-loop-j l = record { nodes : l.copy.nodes ≡ l.net.nodes; arcs : l.copy.arcs ≡ take l.j l.net.arcs }
