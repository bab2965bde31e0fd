use Rattle.std.proofs.Common.{◌≡◌, ◌+◌, sym, ap, ◌∙◌, subst, to_z-of_z}
use Rattle.painted_search.specs.Room.{Room}
use Rattle.painted_search.specs.Writes.{with_scratch}
use Rattle.kilter_solver.specs.Heap.{place, IsHeapUpTo}
use Rattle.kilter_solver.proofs.Heaps.{decreased-heap}
use Rattle.kilter_solver.proofs.heap.decrease.Goals as goal

pub sift_up-requires-clause-heap : goal.sift_up-requires-clause-heap
sift_up-requires-clause-heap c =
    let v = c.args.work.now in
    let i = c.args.node.0 in
    let u = c.set_key.new.work in
    let keyed : u ≡ with_scratch v (v.nodes + i) c.args.new_key =
    c.set_key.ensures ∙ ap (λ z. with_scratch v (v.nodes + i) z) (to_z-of_z c.ranges.new_key) in
    let at_place : c.place.result ≡ place v i = c.place.ensures ∙ ap (λ (w : Room). place w i) keyed in
    subst (λ k. IsHeapUpTo u k) (sym at_place)
    (subst (λ (w : Room). IsHeapUpTo w (place v i)) (sym keyed)
    (decreased-heap v i c.args.new_key c.requires.heap c.requires.there c.requires.queued c.requires.less))
