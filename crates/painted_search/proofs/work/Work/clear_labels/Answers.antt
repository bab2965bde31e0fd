use Rattle.std.proofs.Common.{ap, ◌∙◌}
use Rattle.painted_search.specs.Room.{Room}
use Rattle.painted_search.specs.Writes.{unlabelled}
use Rattle.painted_search.proofs.Rooms.{lists, room-same}
use Rattle.painted_search.proofs.Written.{labels-cleared}
use Rattle.painted_search.proofs.work.Work.clear_labels.Goals as goal

pub returns : goal.returns
returns c =
    let inside = c.self.inside in
    room-same _ _
    (labels-cleared inside.region c.fill.new.self inside.layout inside.walk_len inside.last c.fill.ensures
    ∙ ap (λ (w : Room). lists (unlabelled w)) c.self.view_is)
