use Rattle.std.proofs.Common.{rules, ap, ◌∙◌, w64, SFits, to_z, of_z, to_z-of_z}
use Rattle.painted_search.specs.Room.{Room}
use Rattle.painted_search.specs.Writes.{with_flow}
use Rattle.painted_search.proofs.Rooms.{lists, room-same}
use Rattle.painted_search.proofs.Written.{flows-written}
use Rattle.painted_search.proofs.work.Work.set_flow.Goals as goal

pub returns : goal.returns
returns c =
    let fits : SFits w64 c.args.flow = search rules in
    let inside = c.self.inside in
    let l = inside.layout in
    room-same _ _
    (flows-written inside.region c.set.new.self l inside.walk_len inside.last _ c.set.ensures
    ∙ ap (λ (w : Room). lists (with_flow w c.args.arc.0 (to_z w64 (of_z w64 c.args.flow)))) c.self.view_is
    ∙ ap (λ x. lists (with_flow c.args.self.now c.args.arc.0 x)) (to_z-of_z fits))
