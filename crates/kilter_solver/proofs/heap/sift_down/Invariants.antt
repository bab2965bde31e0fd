use Rattle.std.proofs.Common.{◌<◌, ◌-◌}
use Rattle.kilter_solver.specs.Heap.{IsHeapBelow, IsShuffled}
use Rattle.kilter_solver.proofs.heap.sift_down.Given as goal

abbrev pub invariant-loop-child : goal.invariant-loop-child
invariant-loop-child l = record {
  heap : IsHeapBelow l.work l.high;
  there : l.high < l.work.nodes;
  shuffled : IsShuffled l.fn.work l.work;
}

abbrev pub decreases-loop-child : goal.decreases-loop-child
decreases-loop-child l = l.fn.work.nodes - l.high
