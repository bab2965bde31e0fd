use Rattle.std.proofs.Common.{◌≡◌}
use Rattle.transport_front.proofs.BuildLemmas.{arcs_to}
use Rattle.transport_front.proofs.compiling.add_arcs.Given as goal

abbrev pub invariant-loop-j : goal.invariant-loop-j
invariant-loop-j l = record { so_far : l.model.entries ≡ arcs_to l.t.table l.j; scale : l.model.scale ≡ l.initial.model.scale }
