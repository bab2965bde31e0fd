use Rattle.std.proofs.Common.{rules, ◌<◌, ◌^◌, ◌++◌, ◌∷◌, [], length, ap, ◌∙◌, w64, SFits, to_z-of_z, arith}
use Rattle.painted_search.specs.LaidFacts.{length-steps}
use Rattle.painted_search.specs.Room.{Room}
use Rattle.painted_search.proofs.Rooms.{with_walk, room-same}
use Rattle.painted_search.proofs.Written.{step-pushed}
use Rattle.painted_search.proofs.work.Work.push_step.Goals as goal

pub returns : goal.returns
returns c room =
    let inside = c.self.inside in
    let fits : SFits w64 c.word_of.result = search rules in
    let small : c.args.step.arc.0 < 2 ^ 32 = search rules in
    let there : inside.walk_len < inside.layout.nodes =
    (let count = length-steps inside.region inside.layout inside.walk_len inside.full inside.short_walk in
    let walk = ap (λ (w : Room). length w.walk) c.self.view_is in
    let nodes = ap (λ (w : Room). w.nodes) c.self.view_is in omega arith) in
    room-same _ _
    (step-pushed inside.region c.set.new.self inside.layout inside.walk_len inside.last _ c.args.step inside.full there c.set.ensures
    (to_z-of_z fits ∙ c.word_of.ensures) small
    ∙ ap (λ (w : Room). with_walk w (w.walk ++ c.args.step ∷ [])) c.self.view_is)
