use Rattle.std.proofs.Common.{rules, ◌<◌, ◌^◌, length, true, Some, ◌++◌, ◌∷◌, [], set, map, take, ap, ◌∙◌, w64, SFits, to_z-of_z, arith}
use Rattle.work_region.specs.Blocks.{block_words}
use Rattle.painted_search.specs.StepWords.{step_of}
use Rattle.painted_search.specs.LaidFacts.{IsFull, length-steps}
use Rattle.painted_search.specs.Room.{Room}
use Rattle.painted_search.proofs.Rooms.{Lists, lists, room-same}
use Rattle.painted_search.proofs.Written.{mark-written, label-written}
use Rattle.painted_search.proofs.work.Work.reach.Goals as goal

pub returns : goal.returns
returns c room =
    let inside = c.self.inside in
    let r = inside.region in
    let l = inside.layout in
    let i = c.args.node.0 in
    let t = c.args.step in
    let fits : SFits w64 c.word_of.result = search rules in
    let small : t.arc.0 < 2 ^ 32 = search rules in
    let full : IsFull c.set-2.new.self l = c.set-2.ensures.count ∙ c.set.ensures.count ∙ inside.full in
    let there : length (map step_of (take inside.walk_len (block_words c.set-2.new.self l.walk))) < l.nodes =
    (let before = length-steps r l inside.walk_len inside.full inside.short_walk in
    let after = length-steps c.set-2.new.self l inside.walk_len full inside.short_walk in
    let walk = ap (λ (w : Room). length w.walk) c.self.view_is in
    let nodes = ap (λ (w : Room). w.nodes) c.self.view_is in omega arith) in
    c.push_step.ensures there
    ∙ room-same _ _
    (ap (λ (v : Lists). record v { walk = v.walk ++ t ∷ [] })
    (label-written c.set.new.self c.set-2.new.self l inside.walk_len inside.last i _ t c.set-2.ensures
    (to_z-of_z fits ∙ c.word_of.ensures) small
    ∙ ap (λ (v : Lists). record v { labels = set v.labels i (Some t) })
    (mark-written r c.set.new.self l inside.walk_len inside.last i c.set.ensures))
    ∙ ap (λ (w : Room). record (lists w) {
      reached = set w.reached i true;
      labels = set w.labels i (Some t);
      walk = w.walk ++ t ∷ [];
    }) c.self.view_is)
