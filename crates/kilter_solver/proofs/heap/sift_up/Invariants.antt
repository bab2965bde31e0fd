use Rattle.std.proofs.Common.{◌<◌}
use Rattle.kilter_solver.specs.Heap.{size, IsHeapUpTo, IsShuffled}
use Rattle.kilter_solver.proofs.heap.sift_up.Given as goal

abbrev pub invariant-loop-low : goal.invariant-loop-low
invariant-loop-low l = record {
  heap : IsHeapUpTo l.work l.low;
  there : l.low < size l.work;
  shuffled : IsShuffled l.fn.work l.work;
}

abbrev pub decreases-loop-low : goal.decreases-loop-low
decreases-loop-low l = l.low
