use Rattle.std.proofs.Common.{◌≡◌, ◌+ℤ◌, false, IsTrue, pos, sym, ap, ◌∙◌, subst, w64, SFits, to_z, of_z, to_z-of_z, rules, arith}
use Rattle.std.proofs.lemmas.Int.{ints}
use Rattle.theory.specs.Network.{«at»}
use Rattle.theory.specs.Cut.{holds}
use Rattle.theory.specs.Circuit.{begin_of, end_of}
use Rattle.net_incidence.specs.Graph.{bare}
use Rattle.kilter_solver.specs.Spread.{level, IsImproved}
use Rattle.net_incidence.proofs.Graphs.{begin-in_graph}
use Rattle.kilter_solver.proofs.Spreading.{near-done, key-within}
use Rattle.kilter_solver.proofs.Relaxing.{tried-settled, tried-barred, step-tried}
use Rattle.kilter_solver.proofs.spread.Routing.try_step.Goals as goal

pub returns-then-reached-clause-tried : goal.returns-then-reached-clause-tried
returns-then-reached-clause-tried g c =
    let net = c.args.self.now.net.now in
    let done : IsTrue (holds c.args.work.now.reached (end_of (bare net) c.args.step)) =
    ap (holds c.args.work.now.reached) (sym c.end-end.ensures) ∙ sym c.reached.ensures ∙ c.if-reached.true in
    tried-settled net (g.B.Bundle.lists c.args.self.now.bundle.now) c.args.source.0 c.args.work.now c.args.step (pos 0) (pos 0)
    c.requires.ready.on_curves c.requires.there c.requires.spread (begin-in_graph net c.args.step c.requires.there) done

pub offer-offer-requires-clause-near : goal.offer-offer-requires-clause-near
offer-offer-requires-clause-near g c =
    let net = c.args.self.now.net.now in
    let from = begin_of (bare net) c.args.step in
    key-within net (g.B.Bundle.lists c.args.self.now.bundle.now) c.args.source.0 from c.args.work.now from c.requires.spread c.requires.ready
    (near-done c.args.work.now from (c.requires.spread.opened_done (begin-in_graph net c.args.step c.requires.there)))

pub returns-in-Some : goal.returns-in-Some
returns-in-Some g c =
    let net = c.args.self.now.net.now in
    let work = c.args.work.now in
    let is_end = c.end-end.ensures in
    let waits : holds work.reached (end_of (bare net) c.args.step) ≡ false =
    ap (holds work.reached) (sym is_end) ∙ sym c.reached.ensures ∙ c.if-reached.false in
    let low = c.in-Some.ensures.price.small.0 in
    let high = c.in-Some.ensures.price.small.1 in
    let offered = c.offer-offer.ensures in
    let offer : c.offer-offer.result +ℤ «at» work.potentials (end_of (bare net) c.args.step) ≡ level work (begin_of (bare net) c.args.step) +ℤ c.in-Some.price =
    omega (arith, ints) in
    let fits : SFits w64 c.offer-offer.result = search rules in
    let all = step-tried net (g.B.Bundle.lists c.args.self.now.bundle.now) c.args.source.0 c.args.step work c.improve.new.work
    c.in-Some.price c.offer-offer.result c.requires.ready c.requires.there c.requires.spread waits c.in-Some.ensures.price offer
    (subst (λ z. IsImproved work c.improve.new.work (end_of (bare net) c.args.step) c.args.step z) (to_z-of_z fits)
    (subst (λ n. IsImproved work c.improve.new.work n c.args.step (to_z w64 (of_z w64 c.offer-offer.result))) is_end c.improve.ensures.improved)) in
    record {
      queue = c.improve.ensures.queue;
      spread = all.spread;
      later = all.later;
      tried = all.tried;
      no_fewer = search rules;
      count = search rules;
    }

pub returns-in-None-clause-tried : goal.returns-in-None-clause-tried
returns-in-None-clause-tried g c =
    tried-barred c.args.self.now.net.now (g.B.Bundle.lists c.args.self.now.bundle.now) c.args.source.0 c.args.work.now c.args.step (pos 0) (pos 0)
    c.requires.ready.on_curves c.requires.there c.in-None.ensures.price
