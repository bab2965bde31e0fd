use Rattle.std.proofs.Common.{true, None, set, replicate, ap, ◌∙◌}
use Rattle.painted_search.specs.Room.{Room}
use Rattle.painted_search.specs.Reaching.{begun}
use Rattle.painted_search.proofs.Rooms.{Lists, lists, room-same}
use Rattle.painted_search.proofs.Written.{labels-cleared, marks-cleared, mark-written}
use Rattle.painted_search.proofs.work.Work.begin_at.Goals as goal

pub returns : goal.returns
returns c =
    let inside = c.self.inside in
    let r = inside.region in
    let l = inside.layout in
    let i = c.args.root.0 in
    room-same _ _
    (mark-written c.fill-2.new.self c.set.new.self l 0 inside.last i c.set.ensures
    ∙ ap (λ (v : Lists). record v { reached = set v.reached i true })
    (labels-cleared c.fill.new.self c.fill-2.new.self l 0 inside.last c.fill-2.ensures
    ∙ ap (λ (v : Lists). record v { labels = replicate l.nodes None }) (marks-cleared r c.fill.new.self l 0 inside.last c.fill.ensures))
    ∙ ap (λ (w : Room). lists (begun w i)) c.self.view_is)
