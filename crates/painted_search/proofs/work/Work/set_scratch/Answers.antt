use Rattle.std.proofs.Common.{rules, ap, ◌∙◌, w64, SFits, to_z, of_z, to_z-of_z}
use Rattle.painted_search.specs.Room.{Room}
use Rattle.painted_search.specs.Writes.{with_scratch}
use Rattle.painted_search.proofs.Rooms.{lists, room-same}
use Rattle.painted_search.proofs.Written.{scratch-written}
use Rattle.painted_search.proofs.work.Work.set_scratch.Goals as goal

pub returns : goal.returns
returns c =
    let fits : SFits w64 c.args.word = search rules in
    let inside = c.self.inside in
    room-same _ _
    (scratch-written inside.region c.set.new.self inside.layout inside.walk_len inside.last c.args.k
    (to_z w64 (of_z w64 c.args.word)) c.set.ensures
    ∙ ap (λ (w : Room). lists (with_scratch w c.args.k (to_z w64 (of_z w64 c.args.word)))) c.self.view_is
    ∙ ap (λ u. lists (with_scratch c.args.self.now c.args.k u)) (to_z-of_z fits))
