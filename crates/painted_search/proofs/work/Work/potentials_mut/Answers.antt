-- The words are the potentials and the scratch, three times as many as the nodes; whatever list comes back is cut to their
-- length. They lie behind all others, so these stay.
use Rattle.std.proofs.Common.{◌≡◌, ◌≤◌, ◌*◌, ℤ, List, ◌++◌, length, take, drop, refl, sym, ap, ◌∙◌, arith}
use Rattle.std.proofs.lemmas.List.{take-append-drop}
use Rattle.std.specs.List.{length_refill}
use Rattle.work_region.specs.Blocks.{block_words}
use Rattle.work_region.proofs.Views.{overlaid}
use Rattle.work_region.proofs.LentBlocks.{lent-before, lent-last}
use Rattle.painted_search.specs.LaidFacts.{length-words_block}
use Rattle.painted_search.specs.Room.{Room, overwritten}
use Rattle.painted_search.proofs.Rooms.{Lists, with_words, room-same}
use Rattle.painted_search.proofs.Written.{of_words, of_words-same}
use Rattle.painted_search.proofs.work.Work.potentials_mut.Goals as goal

pub invariant_of-self-inside-lent : goal.invariant_of-self-inside-lent
invariant_of-self-inside-lent c = λ w.
    let inside = c.self.inside in
    let xs = inside.region.carved in (
      sym (length_refill (length xs) xs (overlaid inside.layout.words.start w xs) refl) ∙ inside.full,
      (inside.short_walk, tt),
    )

pub returns : goal.returns
returns c =
    let inside = c.self.inside in
    let r = inside.region in
    let l = inside.layout in
    let n = l.nodes in
    let laid = l.laid in
    let full = inside.full in
    let nodes : n ≡ c.args.self.now.nodes = ap (λ (w : Room). w.nodes) c.self.view_is in
    let words = block_words r l.words in
    let there : l.words.start ≤ length r.carved = omega arith in
    let before : List ℤ → Lists =
    of_words n l.arcs inside.walk_len inside.last (block_words r l.flows) (block_words r l.labels) (block_words r l.marks) (block_words r l.walk)
    (block_words r l.queue) in (
      (
        refl,
        λ w. room-same _ _
            (of_words-same n l.arcs inside.walk_len inside.last _ _ _ _ _ _ _ _ _ _ _ _
            (lent-before r l.words l.flows w (omega arith) there)
            (lent-before r l.words l.labels w (omega arith) there)
            (lent-before r l.words l.marks w (omega arith) there)
            (lent-before r l.words l.walk w (omega arith) there)
            (lent-before r l.words l.queue w (omega arith) there)
            (lent-last r l.words w (omega arith))
            ∙ ap (λ k. before (take k (w ++ drop (length w) words))) laid.words_len
            ∙ ap (λ (all : List ℤ). before (take (3 * n) (w ++ drop (length w) all))) (sym (take-append-drop n words))
            ∙ ap (λ (v : Room). with_words v v.nodes (overwritten v w)) c.self.view_is),
      ),
      record {
        writes_back = tt;
        words = ap length c.words_mut.ensures.words ∙ length-words_block r l full ∙ ap (λ n. 3 * n) nodes;
        potentials = ap (λ n. take n c.words_mut.result.now) (sym nodes)
            ∙ ap (take n) c.words_mut.ensures.words
            ∙ ap (λ (w : Room). w.potentials) c.self.view_is;
      },
    )
