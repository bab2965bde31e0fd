use Rattle.std.proofs.Common.{◌≡◌, ℕ, ℤ, pos, ◌≤ℤ◌, ◌+◌, sym, subst, w64, SFits, to_z, of_z, to_z-of_z, rules, arith}
use Rattle.std.proofs.lemmas.Int.{ints}
use Rattle.kilter_solver.specs.Routing.{IsRoomOf}
use Rattle.kilter_solver.proofs.Rooms.{IsMeasured, measured-begun, measured-more, measured-back, measured-end, measured-count}
use Rattle.kilter_solver.proofs.spread.Routing.room_along.Goals as goal

pub loop-init : goal.loop-init
loop-init g c =
    let net = c.args.self.now.net.now in
    let lists = g.B.Bundle.lists c.args.self.now.bundle.now in
    let most = to_z w64 (of_z w64 c.args.most) in
    record {
      measured = measured-begun net lists c.args.source.0 c.args.target.0 c.args.work.now most (g.B.Bundle.weight c.args.self.now.bundle.now) c.args.steps.now c.requires.route
          (subst (λ (z : ℤ). pos 1 ≤ℤ z) (sym (to_z-of_z c.ranges.most)) c.requires.some);
    }

pub loop-preserved : goal.loop-preserved
loop-preserved g c =
    let net = c.args.self.now.net.now in
    let lists = g.B.Bundle.lists c.args.self.now.bundle.now in
    let most = to_z w64 (of_z w64 c.args.most) in
    let before = c.loop.invariant.measured in
    let read = c.room_of-room.ensures in
    let a = to_z w64 (of_z w64 c.room_of-room.result) in
    let fits : SFits w64 c.room_of-room.result = search rules in
    let a_is : a ≡ c.room_of-room.result = to_z-of_z fits in
    let some : pos 1 ≤ℤ a = subst (λ (z : ℤ). pos 1 ≤ℤ z) (sym a_is) read.some in
    let less : a ≤ℤ to_z w64 c.loop.room-bits = (let bound = read.most in omega (arith, ints)) in
    let room = subst (λ (z : ℤ). IsRoomOf net lists c.args.work.now z c.in-Some.step) (sym a_is) read.room in
    record {
      measured = subst (λ (n : ℕ). IsMeasured net lists c.args.source.0 c.args.target.0 c.args.work.now most a n (c.loop.counter + 1)
          (g.B.Bundle.weight c.args.self.now.bundle.now) c.args.steps.now c.room_of-room.new.steps) (sym c.begin-node.ensures)
          (measured-more net lists c.args.source.0 c.args.target.0 c.args.work.now most (g.B.Bundle.weight c.args.self.now.bundle.now) c.args.steps.now
          (to_z w64 c.loop.room-bits) c.loop.node.0 c.loop.counter c.loop.steps before c.in-Some.step a c.room_of-room.new.steps c.if-node-source.false
          (sym c.in-Some.ensures) some less room read.no_fewer read.count);
    }

pub returns-then-node-source-clause-room : goal.returns-then-node-source-clause-room
returns-then-node-source-clause-room g c =
    let net = c.args.self.now.net.now in
    let lists = g.B.Bundle.lists c.args.self.now.bundle.now in
    let most = to_z w64 (of_z w64 c.args.most) in
    let before = c.loop.invariant.measured in
    measured-back net lists c.args.source.0 c.args.target.0 c.args.work.now most (g.B.Bundle.weight c.args.self.now.bundle.now) c.args.steps.now
    (to_z w64 c.loop.room-bits) c.loop.node.0 c.loop.counter c.loop.steps before c.if-node-source.true

pub returns-then-node-source-clause-count : goal.returns-then-node-source-clause-count
returns-then-node-source-clause-count g c =
    let net = c.args.self.now.net.now in
    let lists = g.B.Bundle.lists c.args.self.now.bundle.now in
    let most = to_z w64 (of_z w64 c.args.most) in
    let before = c.loop.invariant.measured in
    measured-count net lists c.args.source.0 c.args.target.0 c.args.work.now most (g.B.Bundle.weight c.args.self.now.bundle.now) c.args.steps.now
    (to_z w64 c.loop.room-bits) c.loop.node.0 c.loop.counter c.loop.steps before

pub returns-clause-room : goal.returns-clause-room
returns-clause-room g c =
    let net = c.args.self.now.net.now in
    let lists = g.B.Bundle.lists c.args.self.now.bundle.now in
    let most = to_z w64 (of_z w64 c.args.most) in
    let before = c.loop.invariant.measured in
    measured-back net lists c.args.source.0 c.args.target.0 c.args.work.now most (g.B.Bundle.weight c.args.self.now.bundle.now) c.args.steps.now
    (to_z w64 c.loop.room-bits) c.loop.node.0 c.loop.counter c.loop.steps before (measured-end net lists c.args.source.0 c.args.target.0 c.args.work.now most (g.B.Bundle.weight c.args.self.now.bundle.now) c.args.steps.now
    (to_z w64 c.loop.room-bits) c.loop.node.0 c.loop.counter c.loop.steps before (omega arith))

pub returns-clause-count : goal.returns-clause-count
returns-clause-count g c =
    let net = c.args.self.now.net.now in
    let lists = g.B.Bundle.lists c.args.self.now.bundle.now in
    let most = to_z w64 (of_z w64 c.args.most) in
    let before = c.loop.invariant.measured in
    measured-count net lists c.args.source.0 c.args.target.0 c.args.work.now most (g.B.Bundle.weight c.args.self.now.bundle.now) c.args.steps.now
    (to_z w64 c.loop.room-bits) c.loop.node.0 c.loop.counter c.loop.steps before
