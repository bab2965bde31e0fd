use Rattle.std.proofs.Common.{◌≡◌, ℕ, ℤ, pos, ◌≤ℤ◌, ◌+◌, sym, ◌∙◌, subst, w64, to_z, of_z, to_z-of_z, arith}
use Rattle.std.proofs.lemmas.Int.{ints}
use Rattle.kilter_solver.specs.Routing.{HasRoomBack, IsPushed}
use Rattle.kilter_solver.proofs.Pushing.{IsPushing, pushing-begun, pushing-still, pushing-more}
use Rattle.kilter_solver.proofs.spread.Routing.push.Goals as goal

pub loop-init : goal.loop-init
loop-init g c =
    let net = c.args.self.now.net.now in
    let lists = g.B.Bundle.lists c.args.self.now.bundle.now in
    let a = to_z w64 (of_z w64 c.args.amount) in
    let a_is : a ≡ c.args.amount = to_z-of_z c.ranges.amount in
    record {
      pushing = pushing-begun net lists a c.args.source.0 c.args.target.0 c.args.work.now c.requires.route
          (subst (λ (z : ℤ). HasRoomBack net lists c.args.source.0 c.args.target.0 c.args.work.now z) (sym a_is) c.requires.room)
          (subst (λ (z : ℤ). pos 0 ≤ℤ z) (sym a_is) c.requires.some) c.requires.ready.on_curves;
    }

pub returns-then-node-source : goal.returns-then-node-source
returns-then-node-source g c =
    subst (λ (z : ℤ). IsPushed c.args.self.now.net.now (g.B.Bundle.lists c.args.self.now.bundle.now) z c.args.source.0 c.args.target.0 c.args.work.now c.loop.work)
    (to_z-of_z c.ranges.amount)
    (subst (λ (n : ℕ). IsPushed c.args.self.now.net.now (g.B.Bundle.lists c.args.self.now.bundle.now) (to_z w64 (of_z w64 c.args.amount)) n c.args.target.0
    c.args.work.now c.loop.work)
    c.if-node-source.true c.loop.invariant.pushing.pushed)

pub move_by-requires-clause-flow : goal.move_by-requires-clause-flow
move_by-requires-clause-flow g c =
    let still = pushing-still c.args.self.now.net.now (g.B.Bundle.lists c.args.self.now.bundle.now) c.args.source.0 c.args.target.0
    c.args.work.now c.loop.work c.loop.node.0 c.loop.counter c.in-Some.step (to_z w64 (of_z w64 c.args.amount)) c.loop.invariant.pushing c.if-node-source.false
    (sym c.in-Some.ensures) in
    let x = c.requires.ready.flows c.in-Some.step.arc.0 in
    let low = x.0 in
    let high = x.1 in
    (omega (arith, ints), omega (arith, ints))

pub loop-preserved : goal.loop-preserved
loop-preserved g c =
    let net = c.args.self.now.net.now in
    let lists = g.B.Bundle.lists c.args.self.now.bundle.now in
    let before = c.loop.invariant.pushing in
    record {
      pushing = subst (λ (n : ℕ). IsPushing net lists (to_z w64 (of_z w64 c.args.amount)) c.args.source.0 c.args.target.0 c.args.work.now c.move_by.new.work n (c.loop.counter + 1))
          (sym c.begin-node.ensures)
          (pushing-more net lists c.args.source.0 c.args.target.0 c.args.work.now c.loop.work c.loop.node.0 c.loop.counter c.in-Some.step
          (to_z w64 (of_z w64 c.args.amount)) before c.if-node-source.false (sym c.in-Some.ensures) c.move_by.new.work c.move_by.ensures
          (before.pushed.same.arcs ∙ c.requires.ready.same_arcs));
    }
