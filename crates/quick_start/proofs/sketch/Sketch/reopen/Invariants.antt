use Rattle.quick_start.specs.Spent.{IsSpent}
use Rattle.quick_start.proofs.sketch.Sketch.reopen.Given as goal

abbrev pub invariant-loop-j : goal.invariant-loop-j
invariant-loop-j g l = IsSpent l.fn.feed.fuel l.fn.steps l.feed.fuel l.steps
