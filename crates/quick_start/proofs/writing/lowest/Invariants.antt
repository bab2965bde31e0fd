use Rattle.std.proofs.Common.{◌<◌}
use Rattle.quick_start.proofs.writing.lowest.Given as goal

abbrev pub invariant-loop-i : goal.invariant-loop-i
invariant-loop-i l = l.lowest < l.nodes
