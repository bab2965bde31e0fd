use Rattle.std.proofs.Common.{◌≡◌, ◌+◌, sym, ap, ◌∙◌, subst, to_z-of_z, arith}
use Rattle.painted_search.specs.Room.{Room}
use Rattle.painted_search.specs.Writes.{with_scratch}
use Rattle.kilter_solver.specs.Heap.{IsHeapUpTo, IsPut, IsResized}
use Rattle.kilter_solver.proofs.Heaps.{room-for, inserted-heap}
use Rattle.kilter_solver.proofs.heap.insert.Goals as goal

pub put-requires-clause-there : goal.put-requires-clause-there
put-requires-clause-there c =
    let v = c.args.work.now in
    let room = room-for v c.args.node.0 c.requires.heap.filled c.requires.new c.requires.there in
    let nodes : c.set_key.new.work.nodes ≡ v.nodes = ap (λ (w : Room). w.nodes) c.set_key.ensures in
    omega (arith, c.size-last.ensures)

pub resize-requires : goal.resize-requires
resize-requires c =
    let v = c.args.work.now in
    let room = room-for v c.args.node.0 c.requires.heap.filled c.requires.new c.requires.there in
    let nodes : c.set_key.new.work.nodes ≡ v.nodes = ap (λ (w : Room). w.nodes) c.set_key.ensures in
    omega (arith, c.size-last.ensures, c.put.ensures.same.nodes)

pub sift_up-requires-clause-heap : goal.sift_up-requires-clause-heap
sift_up-requires-clause-heap c =
    let v = c.args.work.now in
    let i = c.args.node.0 in
    let u = c.set_key.new.work in
    let p = c.put.new.work in
    let r = c.resize.new.work in
    let last = c.size-last.ensures in
    let keyed : u ≡ with_scratch v (v.nodes + i) c.args.new_key =
    c.set_key.ensures ∙ ap (λ z. with_scratch v (v.nodes + i) z) (to_z-of_z c.ranges.new_key) in
    subst (λ k. IsHeapUpTo r k) (sym last)
    (inserted-heap v u p r i c.args.new_key c.requires.heap c.requires.there c.requires.new keyed
    (subst (λ k. IsPut u p k i) last c.put.ensures) (subst (λ k. IsResized p r (k + 1)) last c.resize.ensures))
