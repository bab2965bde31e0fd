use Rattle.quick_start.specs.Spent.{IsSpent}
use Rattle.quick_start.proofs.sketch.Sketch.plant_all.Given as goal

abbrev pub invariant-loop-k : goal.invariant-loop-k
invariant-loop-k g l = IsSpent l.fn.feed.fuel l.fn.steps l.feed.fuel l.steps
