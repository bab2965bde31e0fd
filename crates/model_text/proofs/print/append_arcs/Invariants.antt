use Rattle.std.proofs.Common.{◌≡◌, ◌++◌, take}
use Rattle.std.specs.List.{flat_map}
use Rattle.model_text.specs.Printed.{printed_arc}
use Rattle.model_text.proofs.print.append_arcs.Given as goal

abbrev pub invariant-loop-j : goal.invariant-loop-j
invariant-loop-j l =
    (l.out.items ≡ l.initial.out.items ++ flat_map (printed_arc l.m.scale l.m.entries) (take l.j l.m.entries.arcs))
