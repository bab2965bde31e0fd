use Rattle.std.proofs.Common.{ap, ◌∙◌, reverse}
use Rattle.painted_search.specs.Room.{Room}
use Rattle.painted_search.proofs.Rooms.{with_walk, room-same}
use Rattle.painted_search.proofs.Written.{walk-turned}
use Rattle.painted_search.proofs.work.Work.turn_walk.Goals as goal

pub returns : goal.returns
returns c =
    let inside = c.self.inside in
    room-same _ _
    (walk-turned inside.region c.reverse.new.self inside.layout inside.walk_len inside.last inside.full inside.short_walk c.reverse.ensures
    ∙ ap (λ (w : Room). with_walk w (reverse w.walk)) c.self.view_is)
