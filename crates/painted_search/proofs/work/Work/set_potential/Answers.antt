use Rattle.std.proofs.Common.{rules, ◌<◌, ap, ◌∙◌, w64, SFits, to_z, of_z, to_z-of_z}
use Rattle.painted_search.specs.Room.{Room}
use Rattle.painted_search.specs.Writes.{with_potential}
use Rattle.painted_search.proofs.Rooms.{lists, room-same}
use Rattle.painted_search.proofs.Written.{potential-written}
use Rattle.painted_search.proofs.work.Work.set_potential.Goals as goal

pub returns : goal.returns
returns c =
    let fits : SFits w64 c.args.potential = search rules in
    let inside = c.self.inside in
    let there : c.args.node.0 < inside.layout.nodes = rw (ap (λ (w : Room). w.nodes) c.self.view_is) c.requires in
    room-same _ _
    (potential-written inside.region c.set.new.self inside.layout inside.walk_len inside.last c.args.node.0
    (to_z w64 (of_z w64 c.args.potential)) c.set.ensures there
    ∙ ap (λ (w : Room). lists (with_potential w c.args.node.0 (to_z w64 (of_z w64 c.args.potential)))) c.self.view_is
    ∙ ap (λ u. lists (with_potential c.args.self.now c.args.node.0 u)) (to_z-of_z fits))
