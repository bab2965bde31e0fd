use Rattle.std.proofs.Common.{ap}
use Rattle.painted_search.specs.Room.{Room}
use Rattle.painted_search.specs.Writes.{with_no_walk}
use Rattle.painted_search.proofs.Rooms.{lists, room-same}
use Rattle.painted_search.proofs.work.Work.clear_walk.Goals as goal

pub returns : goal.returns
returns c = room-same _ _ (ap (λ (w : Room). lists (with_no_walk w)) c.self.view_is)
