use Rattle.std.proofs.Common.{◌≡◌}
use Rattle.transport_front.proofs.BuildLemmas.{nodes_to}
use Rattle.transport_front.proofs.compiling.add_nodes.Given as goal

abbrev pub invariant-loop-i : goal.invariant-loop-i
invariant-loop-i l = record { so_far : l.model.entries ≡ nodes_to l.t.table l.i; scale : l.model.scale ≡ l.initial.model.scale }
