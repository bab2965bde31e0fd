-- A room's words are as many as it needs: a flow for each arc, a potential and a label for each node, and so on.
use Rattle.std.specs.Prelude.{◌≡◌, ℕ, ◌+◌, ◌*◌, ◌≤◌, [], ◌∷◌, ◌++◌, length, take, drop, map}
use Rattle.std.proofs.Common.{ap, ◌∙◌, arith, length-drop, length-append}
use Rattle.std.proofs.lemmas.List.{length-map, length-take-le}
use Rattle.work_region.specs.declared.block.Block.{Block}
use Rattle.work_region.specs.Words.{Words}
use Rattle.work_region.specs.Blocks.{end_of, block_words}
use Rattle.painted_search.specs.declared.layout.Layout.{Layout}
use Rattle.painted_search.specs.StepWords.{label_of, step_of, index_of, mark_of}
use Rattle.painted_search.specs.Room.{IsSized}
use Rattle.painted_search.specs.Laid.{words_for}

-- a block has as many words as its length says
pub length-block : (r : Words) (b : Block) → end_of b ≤ length r.carved → length (block_words r b) ≡ b.len
length-block r b within =
    let rest = length-drop b.start r.carved in
    length-take-le b.len (drop b.start r.carved) (omega arith)

abbrev pub IsFull : Words → Layout → Type 0
IsFull r l = length r.carved ≡ words_for l.nodes l.arcs

pub length-flows : (r : Words) (l : Layout) → IsFull r l → length (block_words r l.flows) ≡ l.arcs
length-flows r l full = let laid = l.laid in length-block r l.flows (omega arith) ∙ laid.flows_len

pub length-labels : (r : Words) (l : Layout) → IsFull r l → length (block_words r l.labels) ≡ l.nodes
length-labels r l full = let laid = l.laid in length-block r l.labels (omega arith) ∙ laid.labels_len

pub length-marks : (r : Words) (l : Layout) → IsFull r l → length (block_words r l.marks) ≡ l.nodes
length-marks r l full = let laid = l.laid in length-block r l.marks (omega arith) ∙ laid.marks_len

pub length-walk : (r : Words) (l : Layout) → IsFull r l → length (block_words r l.walk) ≡ l.nodes
length-walk r l full = let laid = l.laid in length-block r l.walk (omega arith) ∙ laid.walk_len

pub length-queue : (r : Words) (l : Layout) → IsFull r l → length (block_words r l.queue) ≡ 2 * l.nodes
length-queue r l full = let laid = l.laid in length-block r l.queue (omega arith) ∙ laid.queue_len

pub length-words_block : (r : Words) (l : Layout) → IsFull r l → length (block_words r l.words) ≡ 3 * l.nodes
length-words_block r l full = let laid = l.laid in length-block r l.words (omega arith) ∙ laid.words_len

-- the walk of a room has as many steps as it counts
pub length-steps : (r : Words) (l : Layout) (steps : ℕ) → IsFull r l → steps ≤ l.nodes
    → length (map step_of (take steps (block_words r l.walk))) ≡ steps
length-steps r l steps full short =
    let room = length-walk r l full in
    length-map (take steps (block_words r l.walk)) step_of ∙ length-take-le steps (block_words r l.walk) (omega arith)

pub sized-laid : (r : Words) (l : Layout) (steps : ℕ) → IsFull r l → steps ≤ l.nodes
    → IsSized l.nodes l.arcs (block_words r l.flows) (take l.nodes (block_words r l.words)) (map mark_of (block_words r l.marks))
    (map label_of (block_words r l.labels)) (map step_of (take steps (block_words r l.walk)))
sized-laid r l steps full short =
    let all = length-words_block r l full in
    record {
      some_node = l.laid.some_node;
      few_nodes = l.laid.few_nodes;
      few_arcs = l.laid.few_arcs;
      one_flow_each = length-flows r l full;
      one_potential_each = length-take-le l.nodes (block_words r l.words) (omega arith);
      one_mark_each = length-map (block_words r l.marks) mark_of ∙ length-marks r l full;
      one_label_each = length-map (block_words r l.labels) label_of ∙ length-labels r l full;
      short_walk = (let count = length-steps r l steps full short in omega arith);
    }

pub scratch-laid : (r : Words) (l : Layout) → IsFull r l → length (drop l.nodes (block_words r l.words)) ≡ 2 * l.nodes
scratch-laid r l full =
    let all = length-words_block r l full in
    let rest = length-drop l.nodes (block_words r l.words) in
    omega arith

pub queue-laid : (r : Words) (l : Layout) (last : ℕ) → IsFull r l
    → length (map index_of (block_words r l.queue) ++ last ∷ []) ≡ 2 * l.nodes + 1
queue-laid r l last full =
    length-append (map index_of (block_words r l.queue)) (last ∷ [])
    ∙ ap (λ n. n + 1) (length-map (block_words r l.queue) index_of ∙ length-queue r l full)
