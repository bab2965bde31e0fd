use Rattle.std.proofs.Common.{rules, ◌<◌, ◌^◌, ap, ◌∙◌, w64, SFits, to_z-of_z}
use Rattle.painted_search.specs.Room.{Room}
use Rattle.painted_search.specs.Writes.{relabelled}
use Rattle.painted_search.proofs.Rooms.{lists, room-same}
use Rattle.painted_search.proofs.Written.{label-written}
use Rattle.painted_search.proofs.work.Work.set_label.Goals as goal

pub returns : goal.returns
returns c =
    let fits : SFits w64 c.word_of.result = search rules in
    let small : c.args.step.arc.0 < 2 ^ 32 = search rules in
    let inside = c.self.inside in
    room-same _ _
    (label-written inside.region c.set.new.self inside.layout inside.walk_len inside.last c.args.node.0 _ c.args.step c.set.ensures
    (to_z-of_z fits ∙ c.word_of.ensures) small
    ∙ ap (λ (w : Room). lists (relabelled w c.args.node.0 c.args.step)) c.self.view_is)
