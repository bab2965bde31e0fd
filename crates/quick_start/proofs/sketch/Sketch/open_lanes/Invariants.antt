use Rattle.quick_start.specs.Spent.{IsSpent}
use Rattle.quick_start.proofs.sketch.Sketch.open_lanes.Given as goal

abbrev pub invariant-loop-lane : goal.invariant-loop-lane
invariant-loop-lane g l = IsSpent l.fn.feed.fuel l.fn.steps l.feed.fuel l.steps
