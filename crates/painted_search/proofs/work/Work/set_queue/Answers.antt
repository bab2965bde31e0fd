use Rattle.std.proofs.Common.{◌≡◌, ◌*◌, ◌<◌, ◌^◌, rules, ap, ◌∙◌, w64, SFits, to_z-of_z, arith}
use Rattle.painted_search.specs.Room.{Room}
use Rattle.painted_search.specs.Writes.{with_queue}
use Rattle.painted_search.proofs.Rooms.{lists, room-same}
use Rattle.painted_search.proofs.Written.{slot-written, last-written}
use Rattle.painted_search.proofs.work.Work.set_queue.Goals as goal

pub returns-then-k-self : goal.returns-then-k-self
returns-then-k-self c =
    let fits : SFits w64 c.from.result = search rules in
    let small : c.args.word < 2 ^ 32 = search rules in
    let inside = c.self.inside in
    let there : c.args.k < 2 * inside.layout.nodes = omega arith in
    room-same _ _
    (slot-written inside.region c.set.new.self inside.layout inside.walk_len inside.last c.args.k c.args.word _ inside.full there c.set.ensures
    (to_z-of_z fits ∙ c.from.ensures) small
    ∙ ap (λ (w : Room). lists (with_queue w c.args.k c.args.word)) c.self.view_is)

pub returns-else-k-self : goal.returns-else-k-self
returns-else-k-self c =
    let inside = c.self.inside in
    let nodes : inside.layout.nodes ≡ c.args.self.now.nodes = ap (λ (w : Room). w.nodes) c.self.view_is in
    let here : c.args.k ≡ 2 * inside.layout.nodes = omega arith in
    room-same _ _
    (last-written inside.region inside.layout inside.walk_len inside.last c.args.k c.args.word inside.full here
    ∙ ap (λ (w : Room). lists (with_queue w c.args.k c.args.word)) c.self.view_is)
