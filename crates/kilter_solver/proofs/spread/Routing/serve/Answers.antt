use Rattle.std.proofs.Common.{◌≡◌, ℤ, ◌+ℤ◌, ◌-ℤ◌, neg_ℤ, List, refl, sym, ap, ◌∙◌, subst, w64, SFits, to_z, of_z, to_z-of_z, rules, arith}
use Rattle.std.proofs.lemmas.Int.{ints}
use Rattle.theory.specs.Network.{«at»}
use Rattle.painted_search.specs.Room.{Room}
use Rattle.painted_search.specs.Writes.{with_scratch}
use Rattle.kilter_solver.specs.Excess.{excess}
use Rattle.kilter_solver.specs.Spread.{key}
use Rattle.kilter_solver.specs.Routing.{HasRoomBack}
use Rattle.kilter_solver.proofs.Spreading.{key-within}
use Rattle.kilter_solver.proofs.Lowering.{fallen-route, fallen-movable}
use Rattle.kilter_solver.proofs.Serving.{served-by, still-lacks}
use Rattle.kilter_solver.proofs.spread.Routing.serve.Goals as goal

pub lower-requires-clause-keys : goal.lower-requires-clause-keys
lower-requires-clause-keys g c =
    λ i near. key-within c.args.self.now.net.now (g.B.Bundle.lists c.args.self.now.bundle.now) c.args.source.0 c.args.self.now.net.now.nodes
    c.args.work.now i c.requires.found.spread c.requires.ready near

pub room_along-amount-requires-clause-ready : goal.room_along-amount-requires-clause-ready
room_along-amount-requires-clause-ready g c =
    let few = c.args.work.now.sized.few_nodes in
    fallen-movable c.args.self.now.net.now (g.B.Bundle.lists c.args.self.now.bundle.now) c.args.source.0 c.args.target.0 c.args.work.now
    c.lower.new.work c.requires.found c.requires.balancing.on_curves c.requires.balancing.same_nodes c.lower.ensures c.requires.ready
    (omega (arith, c.requires.balancing.same_nodes))

pub room_along-amount-requires-clause-route : goal.room_along-amount-requires-clause-route
room_along-amount-requires-clause-route g c =
    fallen-route c.args.self.now.net.now (g.B.Bundle.lists c.args.self.now.bundle.now) c.args.source.0 c.args.target.0 c.args.work.now
    c.lower.new.work c.requires.found c.requires.balancing.on_curves c.requires.balancing.same_nodes c.lower.ensures

pub room_along-amount-requires-clause-small : goal.room_along-amount-requires-clause-small
room_along-amount-requires-clause-small g c =
    let same : excess c.lower.new.work c.args.source.0 ≡ excess c.args.work.now c.args.source.0 =
    ap (λ (xs : List ℤ). «at» xs c.args.source.0) c.lower.ensures.same.scratch in
    let few = c.requires.few in
    let most = c.wanted-most.ensures.surplus in
    omega (arith, ints)

pub wanted-most-requires-clause-surplus : goal.wanted-most-requires-clause-surplus
wanted-most-requires-clause-surplus g c =
    let same : excess c.lower.new.work c.args.source.0 ≡ excess c.args.work.now c.args.source.0 =
    ap (λ (xs : List ℤ). «at» xs c.args.source.0) c.lower.ensures.same.scratch in
    let surplus = c.requires.surplus in
    omega (arith, ints)

pub wanted-most-requires-clause-lacks : goal.wanted-most-requires-clause-lacks
wanted-most-requires-clause-lacks g c =
    let same : excess c.lower.new.work c.args.target.0 ≡ excess c.args.work.now c.args.target.0 =
    ap (λ (xs : List ℤ). «at» xs c.args.target.0) c.lower.ensures.same.scratch in
    let lacks = c.requires.found.lacks in
    omega (arith, ints)

pub push-requires-clause-ready : goal.push-requires-clause-ready
push-requires-clause-ready g c =
    let few = c.args.work.now.sized.few_nodes in
    fallen-movable c.args.self.now.net.now (g.B.Bundle.lists c.args.self.now.bundle.now) c.args.source.0 c.args.target.0 c.args.work.now
    c.lower.new.work c.requires.found c.requires.balancing.on_curves c.requires.balancing.same_nodes c.lower.ensures c.requires.ready
    (omega (arith, c.requires.balancing.same_nodes))

pub push-requires-clause-route : goal.push-requires-clause-route
push-requires-clause-route g c =
    fallen-route c.args.self.now.net.now (g.B.Bundle.lists c.args.self.now.bundle.now) c.args.source.0 c.args.target.0 c.args.work.now
    c.lower.new.work c.requires.found c.requires.balancing.on_curves c.requires.balancing.same_nodes c.lower.ensures

pub push-requires-clause-room : goal.push-requires-clause-room
push-requires-clause-room g c =
    let fits : SFits w64 c.room_along-amount.result = search rules in
    subst (λ (z : ℤ). HasRoomBack c.args.self.now.net.now (g.B.Bundle.lists c.args.self.now.bundle.now) c.args.source.0 c.args.target.0 c.lower.new.work z)
    (sym (to_z-of_z fits)) c.room_along-amount.ensures.room

pub give-requires-clause-surplus : goal.give-requires-clause-surplus
give-requires-clause-surplus g c =
    let same : excess c.push.new.work c.args.source.0 ≡ excess c.lower.new.work c.args.source.0 =
    ap (λ (xs : List ℤ). «at» xs c.args.source.0) c.push.ensures.same.scratch in
    let fits : SFits w64 c.room_along-amount.result = search rules in
    let a_is = to_z-of_z fits in
    let most = c.wanted-most.ensures.surplus in
    let less = c.room_along-amount.ensures.most in
    omega (arith, ints)

pub take-requires-clause-lacks : goal.take-requires-clause-lacks
take-requires-clause-lacks g c =
    let same : excess c.lower.new.work c.args.target.0 ≡ excess c.args.work.now c.args.target.0 =
    ap (λ (xs : List ℤ). «at» xs c.args.target.0) c.lower.ensures.same.scratch in
    let fits : SFits w64 c.room_along-amount.result = search rules in
    let a = to_z w64 (of_z w64 c.room_along-amount.result) in
    let a_is : a ≡ c.room_along-amount.result = to_z-of_z fits in
    let most = c.wanted-most.ensures.lack in
    let less = c.room_along-amount.ensures.most in
    still-lacks c.args.work.now c.lower.new.work c.push.new.work c.give.new.work c.args.source.0 c.args.target.0
    (excess c.push.new.work c.args.source.0 -ℤ a) (key c.args.work.now c.args.target.0) (neg_ℤ a)
    c.requires.found.lacks c.requires.surplus (omega (arith, ints)) c.lower.ensures c.push.ensures.same.scratch c.give.ensures

pub returns : goal.returns
returns g c =
    let target = c.args.target.0 in
    let source = c.args.source.0 in
    let fits : SFits w64 c.room_along-amount.result = search rules in
    let a = to_z w64 (of_z w64 c.room_along-amount.result) in
    let a_is : a ≡ c.room_along-amount.result = to_z-of_z fits in
    let left = excess c.push.new.work source -ℤ a in
    let same_source : excess c.lower.new.work source ≡ excess c.args.work.now source =
    ap (λ (xs : List ℤ). «at» xs source) c.lower.ensures.same.scratch in
    let same_target : excess c.lower.new.work target ≡ excess c.args.work.now target =
    ap (λ (xs : List ℤ). «at» xs target) c.lower.ensures.same.scratch in
    let surplus = c.wanted-most.ensures.surplus in
    let lack = c.wanted-most.ensures.lack in
    let less = c.room_along-amount.ensures.most in
    let some = c.room_along-amount.ensures.some in
    let all = served-by c.args.self.now.net.now (g.B.Bundle.lists c.args.self.now.bundle.now) source target c.args.work.now
    c.lower.new.work c.push.new.work c.take.new.work a left (excess (with_scratch c.push.new.work source left) target +ℤ a)
    c.requires.balancing c.requires.found c.requires.balancing.on_curves c.requires.there (omega (arith, ints)) (omega (arith, ints))
    (omega (arith, ints)) c.lower.ensures c.push.ensures refl refl
    (c.take.ensures ∙ ap (λ (r : Room). with_scratch r target (excess r target +ℤ a)) c.give.ensures) in
    record {
      balancing = all.balancing;
      sent = all.sent;
      no_fewer = c.room_along-amount.ensures.no_fewer;
      count = c.room_along-amount.ensures.count;
    }
