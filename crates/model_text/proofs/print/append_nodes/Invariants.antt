use Rattle.std.proofs.Common.{◌≡◌, ◌++◌, take}
use Rattle.std.specs.List.{flat_map}
use Rattle.model_text.specs.Printed.{printed_node}
use Rattle.model_text.proofs.print.append_nodes.Given as goal

abbrev pub invariant-loop-i : goal.invariant-loop-i
invariant-loop-i l = (l.out.items ≡ l.initial.out.items ++ flat_map (printed_node l.m.scale) (take l.i l.m.entries.nodes))
