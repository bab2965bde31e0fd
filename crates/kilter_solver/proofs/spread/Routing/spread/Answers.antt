use Rattle.std.proofs.Common.{◌≡◌, ◌+◌, ◌<◌, pos, ◌≤ℤ◌, true, set, sym, ap, ◌∙◌, subst, IsTrue, arith}
use Rattle.std.proofs.lemmas.Int.{ints}
use Rattle.std.proofs.Math.Nat.{mul-le-mul_left}
use Rattle.theory.specs.Cut.{holds}
use Rattle.painted_search.specs.Room.{Room}
use Rattle.painted_search.specs.Writes.{with_mark, with_scratch}
use Rattle.kilter_solver.specs.Excess.{excess}
use Rattle.kilter_solver.specs.Marks.{count_of}
use Rattle.kilter_solver.specs.Spread.{IsSameButQueue}
use Rattle.kilter_solver.specs.Heap.{size, IsHeap, IsResized, IsTaken}
use Rattle.kilter_solver.proofs.Marking.{marked_total-set, marked_total-term, count-most}
use Rattle.kilter_solver.proofs.Spreading.{started, spread-started, spread-settled}
use Rattle.kilter_solver.proofs.Requeued.{spread-queue}
use Rattle.kilter_solver.proofs.Waiting.{waiting-started, waiting-settled, heap-marked}
use Rattle.kilter_solver.proofs.Settling.{degree, spent-more, spent-most, IsSettling, settling-begun, settling-more}
use Rattle.kilter_solver.proofs.spread.Routing.spread.Goals as goal

pub visit-requires-clause-spread : goal.visit-requires-clause-spread
visit-requires-clause-spread g c =
    let net = c.args.self.now.net.now in
    let lists = g.B.Bundle.lists c.args.self.now.bundle.now in
    let source = c.args.source.0 in
    let is : c.set_key.new.work ≡ started c.args.work.now source =
    c.set_key.ensures ∙ ap (λ (w : Room). with_scratch w (w.nodes + source) (pos 0)) c.begin_at.ensures in
    let cleared : IsResized (started c.args.work.now source) c.clear.new.work 0 = subst (λ (w : Room). IsResized w c.clear.new.work 0) is c.clear.ensures in
    spread-queue net lists source source (started c.args.work.now source) c.clear.new.work cleared.same
    (spread-started net lists c.args.work.now source c.requires.ready.same_nodes (omega (arith, c.requires.ready.same_nodes, c.requires.there)))

pub visit-requires-clause-queue : goal.visit-requires-clause-queue
visit-requires-clause-queue g c =
    let net = c.args.self.now.net.now in
    let lists = g.B.Bundle.lists c.args.self.now.bundle.now in
    let source = c.args.source.0 in
    let is : c.set_key.new.work ≡ started c.args.work.now source =
    c.set_key.ensures ∙ ap (λ (w : Room). with_scratch w (w.nodes + source) (pos 0)) c.begin_at.ensures in
    waiting-started net lists c.args.work.now c.clear.new.work source c.requires.ready.same_nodes
    (omega (arith, c.requires.ready.same_nodes, c.requires.there)) (subst (λ (w : Room). IsResized w c.clear.new.work 0) is c.clear.ensures)

pub loop-node-init : goal.loop-node-init
loop-node-init g c =
    let net = c.args.self.now.net.now in
    let lists = g.B.Bundle.lists c.args.self.now.bundle.now in
    let source = c.args.source.0 in
    let is : c.set_key.new.work ≡ started c.args.work.now source =
    c.set_key.ensures ∙ ap (λ (w : Room). with_scratch w (w.nodes + source) (pos 0)) c.begin_at.ensures in
    let cleared : IsResized (started c.args.work.now source) c.clear.new.work 0 = subst (λ (w : Room). IsResized w c.clear.new.work 0) is c.clear.ensures in
    let all = settling-begun net lists source c.args.work.now c.clear.new.work c.visit.new.work cleared.same c.requires.there c.requires.ready
    c.requires.surplus c.visit.ensures.later c.visit.ensures.spread in
    let root : IsTrue (holds c.visit.new.work.reached source) = c.visit.ensures.spread.root in
    let term = marked_total-term net.nodes (degree net) c.visit.new.work.reached source c.requires.there root in
    let scaled = mul-le-mul_left (g.B.Bundle.weight c.args.self.now.bundle.now) term in
    let count = c.visit.ensures.count in
    record {
      ready = all.ready;
      spread = all.spread;
      queue = c.visit.ensures.queue;
      state = all.state;
      none_lacks = all.none_lacks;
      no_fewer = c.visit.ensures.no_fewer;
      count = omega arith;
    }

pub returns-then-excess-lt0-clause-count : goal.returns-then-excess-lt0-clause-count
returns-then-excess-lt0-clause-count g c =
    spent-most c.args.self.now.net.now c.loop-node.work.reached (g.B.Bundle.weight c.args.self.now.bundle.now) c.args.steps.now c.loop-node.steps
    c.loop-node.invariant.count

pub visit-requires-in-Some-clause-spread : goal.visit-requires-in-Some-clause-spread
visit-requires-in-Some-clause-spread g c =
    let net = c.args.self.now.net.now in
    let lists = g.B.Bundle.lists c.args.self.now.bundle.now in
    let v = c.loop-node.work in
    let i = c.in-Some.node.0 in
    spread-queue net lists c.args.source.0 i (with_mark v i) c.take_least.new.work
    (subst (λ (w : Room). IsSameButQueue w c.take_least.new.work) c.mark.ensures c.take_least.ensures.taken.same)
    (spread-settled net lists c.args.source.0 i v c.loop-node.invariant.spread c.loop-node.invariant.ready.same_nodes c.in-Some.ensures.nearest)

pub take_least-requires-clause-heap : goal.take_least-requires-clause-heap
take_least-requires-clause-heap g c =
    let v = c.loop-node.work in
    let i = c.in-Some.node.0 in
    subst (λ (w : Room). IsHeap w) (sym c.mark.ensures) (heap-marked v i c.loop-node.invariant.queue.heap)

pub take_least-requires-clause-some : goal.take_least-requires-clause-some
take_least-requires-clause-some g c =
    let v = c.loop-node.work in
    let i = c.in-Some.node.0 in
    subst (λ (w : Room). 0 < size w) (sym c.mark.ensures) c.in-Some.ensures.first.0

pub visit-requires-in-Some-clause-queue : goal.visit-requires-in-Some-clause-queue
visit-requires-in-Some-clause-queue g c =
    let v = c.loop-node.work in
    let w = c.take_least.new.work in
    let i = c.in-Some.node.0 in
    waiting-settled v w i c.loop-node.invariant.queue c.in-Some.ensures.nearest.there c.in-Some.ensures.first.1
    (subst (λ (m : Room). IsTaken m w) c.mark.ensures c.take_least.ensures.taken) c.take_least.ensures.heap

pub loop-node-smaller : goal.loop-node-smaller
loop-node-smaller g c =
    let net = c.args.self.now.net.now in
    let v = c.loop-node.work in
    let i = c.in-Some.node.0 in
    let nearest = c.in-Some.ensures.nearest in
    let is : c.visit-in-Some.new.work.reached ≡ set v.reached i true =
    c.visit-in-Some.ensures.later.reached ∙ c.take_least.ensures.taken.same.reached ∙ ap (λ (w : Room). w.reached) c.mark.ensures in
    let more = marked_total-set net.nodes (λ k. 1) v.reached i (omega (arith, nearest.there, c.loop-node.invariant.ready.same_nodes))
    (omega (arith, nearest.there, v.sized.one_mark_each)) nearest.waits in
    let count : count_of net.nodes c.visit-in-Some.new.work.reached ≡ count_of net.nodes v.reached + 1 =
    ap (count_of net.nodes) is ∙ more in
    let most = count-most net.nodes c.visit-in-Some.new.work.reached in
    omega arith

pub loop-node-preserved : goal.loop-node-preserved
loop-node-preserved g c =
    let net = c.args.self.now.net.now in
    let lists = g.B.Bundle.lists c.args.self.now.bundle.now in
    let v = c.loop-node.work in
    let i = c.in-Some.node.0 in
    let nearest = c.in-Some.ensures.nearest in
    let before = c.loop-node.invariant in
    let now : IsSettling net lists c.args.source.0 c.args.work.now v =
    record { ready = before.ready; spread = before.spread; state = before.state; none_lacks = before.none_lacks } in
    let same = subst (λ (w : Room). IsSameButQueue w c.take_least.new.work) c.mark.ensures c.take_least.ensures.taken.same in
    let surplus : pos 0 ≤ℤ excess v i = omega (arith, ints, c.excess.ensures, c.if-excess-lt0.false) in
    let all = settling-more net lists c.args.source.0 c.args.work.now v c.take_least.new.work c.visit-in-Some.new.work i now same surplus
    c.visit-in-Some.ensures.later c.visit-in-Some.ensures.spread in
    let is : c.visit-in-Some.new.work.reached ≡ set v.reached i true =
    c.visit-in-Some.ensures.later.reached ∙ c.take_least.ensures.taken.same.reached ∙ ap (λ (w : Room). w.reached) c.mark.ensures in
    record {
      ready = all.ready;
      spread = all.spread;
      queue = c.visit-in-Some.ensures.queue;
      state = all.state;
      none_lacks = all.none_lacks;
      no_fewer = omega (arith, before.no_fewer, c.visit-in-Some.ensures.no_fewer);
      count = spent-more net v.reached i (g.B.Bundle.weight c.args.self.now.bundle.now) c.args.steps.now c.loop-node.steps c.visit-in-Some.new.steps
          (omega (arith, nearest.there, before.ready.same_nodes)) (omega (arith, nearest.there, v.sized.one_mark_each)) nearest.waits
          before.count c.visit-in-Some.ensures.count c.visit-in-Some.new.work.reached is;
    }

pub returns-clause-count : goal.returns-clause-count
returns-clause-count g c =
    spent-most c.args.self.now.net.now c.loop-node.work.reached (g.B.Bundle.weight c.args.self.now.bundle.now) c.args.steps.now c.loop-node.steps
    c.loop-node.invariant.count
