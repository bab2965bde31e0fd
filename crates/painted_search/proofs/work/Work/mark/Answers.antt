use Rattle.std.proofs.Common.{ap, ◌∙◌}
use Rattle.painted_search.specs.Room.{Room}
use Rattle.painted_search.specs.Writes.{with_mark}
use Rattle.painted_search.proofs.Rooms.{lists, room-same}
use Rattle.painted_search.proofs.Written.{mark-written}
use Rattle.painted_search.proofs.work.Work.mark.Goals as goal

pub returns : goal.returns
returns c =
    let inside = c.self.inside in
    room-same _ _
    (mark-written inside.region c.set.new.self inside.layout inside.walk_len inside.last c.args.node.0 c.set.ensures
    ∙ ap (λ (w : Room). lists (with_mark w c.args.node.0)) c.self.view_is)
