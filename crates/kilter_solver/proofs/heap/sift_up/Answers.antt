use Rattle.std.proofs.Common.{ℕ, ◌+◌, ◌-◌, ◌*◌, ◌/◌, ◌<◌, ◌≤◌, ◌≤ℤ◌, arith}
use Rattle.std.proofs.lemmas.Int.{ints}
use Rattle.kilter_solver.specs.Heap.{size, slot_key}
use Rattle.kilter_solver.proofs.Heaps.{risen, shuffled-further}
use Rattle.kilter_solver.proofs.heap.sift_up.Goals as goal

pub loop-low-preserved : goal.loop-low-preserved
loop-low-preserved c =
    let v = c.loop-low.work in
    let w = c.swap.new.work in
    let low = c.loop-low.low in
    let p : ℕ = (low - 1) / 2 in
    let heap = c.loop-low.invariant.heap in
    let second : low < size v = c.loop-low.invariant.there in
    let left : 2 * p + 1 ≤ low = omega arith in
    let right : low ≤ 2 * p + 2 = omega arith in
    let first : p < size v = omega arith in
    let swapped = c.swap.ensures.swapped in
    let less : slot_key v low ≤ℤ slot_key v p = omega (arith, ints, c.slot_key.ensures, c.slot_key-in-loop-low.ensures, c.if-slot_key.false) in
    record {
      heap = risen v w p low heap.filled c.swap.ensures.filled first second swapped heap left right less;
      there = omega (arith, swapped.many);
      shuffled = shuffled-further c.args.work.now v w c.loop-low.invariant.shuffled c.swap.ensures.shuffled;
    }
