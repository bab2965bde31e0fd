use Rattle.std.proofs.Common.{◌≡◌, ℕ, ◌<◌, IsTrue, length, sym, subst, below_more, arith}
use Rattle.theory.specs.Cut.{holds}
use Rattle.theory.specs.Circuit.{step}
use Rattle.kilter_solver.specs.Spread.{Spread}
use Rattle.kilter_solver.proofs.Spreading.{ready-same, spread-closed}
use Rattle.kilter_solver.proofs.Relaxing.{later-further, tried-later}
use Rattle.kilter_solver.proofs.spread.Routing.visit.Goals as goal

pub try_step-requires-clause-spread : goal.try_step-requires-clause-spread
try_step-requires-clause-spread g c =
    let net = c.args.self.now.net.now in
    let lists = g.B.Bundle.lists c.args.self.now.bundle.now in
    let there : c.loop-step.step-index < length c.steps-step-items.result.now = omega arith in
    subst (λ (i : ℕ). Spread net lists c.args.source.0 i c.loop-step.work) (sym (c.steps-step-items.ensures.begin c.loop-step.step-index there))
    c.loop-step.invariant.spread

pub loop-step-preserved : goal.loop-step-preserved
loop-step-preserved g c =
    let net = c.args.self.now.net.now in
    let lists = g.B.Bundle.lists c.args.self.now.bundle.now in
    let items = c.steps-step-items.result.now in
    let v = c.loop-step.work in
    let w = c.try_step.new.work in
    let before = c.loop-step.invariant in
    let done = before.spread.opened_done c.requires.there in
    let begins = c.steps-step-items.ensures.begin in
    let there : c.loop-step.step-index < length items = omega arith in
    record {
      ready = ready-same net lists v w c.try_step.ensures.later.state before.ready;
      spread = subst (λ (i : ℕ). Spread net lists c.args.source.0 i w) (begins c.loop-step.step-index there) c.try_step.ensures.spread;
      queue = c.try_step.ensures.queue;
      later = later-further c.args.work.now v w before.later c.try_step.ensures.later;
      tried = below_more _ _
          (λ k l.
          tried-later net lists v w (step items k) c.try_step.ensures.later
          (subst (λ (i : ℕ). IsTrue (holds v.reached i)) (sym (begins k (omega arith))) done) (before.tried k l))
          c.try_step.ensures.tried;
      no_fewer = omega (arith, before.no_fewer, c.try_step.ensures.no_fewer);
      count = omega (arith, before.count, c.try_step.ensures.count);
    }

pub returns-clause-spread : goal.returns-clause-spread
returns-clause-spread g c =
    let items = c.steps-step-items.result.now in
    let all : c.loop-step.step-index ≡ length items = omega arith in
    spread-closed c.args.self.now.net.now (g.B.Bundle.lists c.args.self.now.bundle.now) c.args.source.0 c.args.node.0 items c.loop-step.work
    c.loop-step.invariant.spread c.steps-step-items.ensures.items (λ k l. c.loop-step.invariant.tried k (omega arith))
