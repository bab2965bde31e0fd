use Rattle.std.proofs.Common.{◌≡◌, None, length, sym, ap, ◌∙◌, arith, rules}
use Rattle.std.proofs.lemmas.List.{get_or_read, length_push}
use Rattle.flow_pieces.specs.Course.{place_at}
use Rattle.flow_pieces.proofs.Going.{has_room}
use Rattle.flow_pieces.proofs.walker.Walker.go_on.Goals as goal

pub returns-in-Some-clause-in_walk : goal.returns-in-Some-clause-in_walk
returns-in-Some-clause-in_walk c =
    let placed = c.loop-place.invariant.course.placed in
    let long = placed.one_each in
    let node = c.end-node.ensures.node in
    let read : c.index.result.now ≡ place_at c.loop-place.self.places.items c.end-node.result.0 =
    get_or_read c.loop-place.self.places.items c.end-node.result.0 c.index.result.now (omega arith) c.index.ensures None in
    (placed.only c.end-node.result.0 c.in-Some.place (sym read ∙ c.in-Some.is)).0

pub loop-place-smaller : goal.loop-place-smaller
loop-place-smaller c =
    let walk = c.loop-place.self.walk.items in
    let free : place_at c.loop-place.self.places.items c.end-node.result.0 ≡ None = search rules in
    let room = has_room c.args.net.now walk c.loop-place.self.places.items c.end-node.result.0 c.loop-place.invariant.course.trail.there
    c.loop-place.invariant.course.placed c.end-node.ensures.node free in
    let kept = ap length c.next_step-step.ensures.walk in
    let more = ap length c.in_ok-push.ensures.walk ∙ length_push c.next_step-step.new.self.walk.items c.next_step-step.result in
    omega arith
