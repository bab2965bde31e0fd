use Rattle.std.proofs.Common.{ℕ, ◌-◌, ◌^◌, ◌<◌}
use Rattle.mono_curve.specs.Halving.{count_from, is_item_below}
use Rattle.mono_curve.proofs.Stairs.{IsNarrowed}
use Rattle.mono_curve.proofs.Spending.{IsSpent}
use Rattle.mono_curve.proofs.piece_price.count_below.Given as goal

abbrev pub invariant-loop-low : goal.invariant-loop-low
invariant-loop-low g l = record {
  narrowed : IsNarrowed (is_item_below (g.C.Looked.listing l.curve).items l.start l.end) (count_from (g.C.Looked.listing l.curve).items l.start) l.low l.high;
  spent : (d : ℕ) → count_from (g.C.Looked.listing l.curve).items l.start < 2 ^ d → IsSpent (g.C.Looked.weight l.curve) d (l.high - l.low) l.fn.looks l.looks;
}

abbrev pub decreases-loop-low : goal.decreases-loop-low
decreases-loop-low g l = l.high - l.low
