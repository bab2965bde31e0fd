use Rattle.quick_start.specs.Spent.{IsSpent}
use Rattle.quick_start.proofs.sketch.Sketch.improve.Given as goal

abbrev pub invariant-loop-pivots : goal.invariant-loop-pivots
invariant-loop-pivots g l = IsSpent l.fn.feed.fuel l.fn.steps l.feed.fuel l.steps
