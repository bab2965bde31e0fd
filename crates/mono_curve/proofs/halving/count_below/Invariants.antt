use Rattle.std.proofs.Common.{◌-◌}
use Rattle.mono_curve.specs.Halving.{count_from, is_item_below}
use Rattle.mono_curve.proofs.Stairs.{IsNarrowed}
use Rattle.mono_curve.proofs.halving.count_below.Given as goal

abbrev pub invariant-loop-low : goal.invariant-loop-low
invariant-loop-low l = IsNarrowed (is_item_below l.items l.start l.end) (count_from l.items l.start) l.low l.high

abbrev pub decreases-loop-low : goal.decreases-loop-low
decreases-loop-low l = l.high - l.low
