use Rattle.std.proofs.Common.{◌≡◌, take}
use Rattle.mono_curve.proofs.curve.to_curve.Given as goal

abbrev pub invariant-loop-k : goal.invariant-loop-k
invariant-loop-k g l = l.items.items ≡ take l.k (g.C.Listed.listing l.curve).items
