-- A write to one block of a room's region leaves the other blocks as they are, so one list of the room changes and no other.
use Rattle.std.proofs.Common.{◌≡◌, ℕ, ◌+◌, ◌*◌, ◌<◌, ◌≤◌, ◌^◌, ℤ, pos, Bool, true, false, Option, Some, None, List, [], ◌∷◌, ◌++◌, length, map, take, drop, set, replicate, reverse, sym, ap, ap₂, ◌∙◌, inl, inr, arith}
use Rattle.std.proofs.lemmas.List.{take-set-le, drop-set-lt, drop-set-add, map-set, map_push, take_more_set, length-map, length-take-le, length-reverse, take_at, set-append_left, set_at}
use Rattle.std.proofs.Math.Seq.{take-set-lt}
use Rattle.theory.specs.declared.network.Step.{Step}
use Rattle.work_region.specs.Words.{Words}
use Rattle.work_region.specs.Blocks.{IsWritten, block_words, reverse_front}
use Rattle.painted_search.specs.declared.layout.Layout.{Layout}
use Rattle.painted_search.specs.StepWords.{word_of, label_of, step_of, index_of, mark_of}
use Rattle.painted_search.specs.LaidFacts.{IsFull, length-walk, length-queue}
use Rattle.painted_search.proofs.Rooms.{Lists}
use Rattle.painted_search.proofs.StepsAsWords.{labels-set, queue-set, map-zeros, step-word, map-reverse}

-- the lists of a room of which the walk has this many steps and the queue this last word
abbrev pub of_words : ℕ → ℕ → ℕ → ℕ → List ℤ → List ℤ → List ℤ → List ℤ → List ℤ → List ℤ → Lists
of_words nodes arcs steps last flows labels marks walk queue words = record {
  nodes = nodes;
  arcs = arcs;
  flows = flows;
  potentials = take nodes words;
  reached = map mark_of marks;
  labels = map label_of labels;
  walk = map step_of (take steps walk);
  scratch = drop nodes words;
  queue = map index_of queue ++ last ∷ [];
}

abbrev pub laid_lists : Words → Layout → ℕ → ℕ → Lists
laid_lists r l steps last = of_words l.nodes l.arcs steps last (block_words r l.flows) (block_words r l.labels) (block_words r l.marks) (block_words r l.walk) (block_words r l.queue) (block_words r l.words)

pub of_words-same : (nodes arcs steps last : ℕ) (f f' l l' m m' k k' q q' w w' : List ℤ)
    → f ≡ f' → l ≡ l' → m ≡ m' → k ≡ k' → q ≡ q' → w ≡ w'
    → of_words nodes arcs steps last f l m k q w ≡ of_words nodes arcs steps last f' l' m' k' q' w'
of_words-same nodes arcs steps last f f' l l' m m' k k' q q' w w' flows labels marks walk queue words =
    ap (λ (f : List ℤ). of_words nodes arcs steps last f l m k q w) flows
    ∙ ap (λ (l : List ℤ). of_words nodes arcs steps last f' l m k q w) labels
    ∙ ap (λ (m : List ℤ). of_words nodes arcs steps last f' l' m k q w) marks
    ∙ ap (λ (k : List ℤ). of_words nodes arcs steps last f' l' m' k q w) walk
    ∙ ap (λ (q : List ℤ). of_words nodes arcs steps last f' l' m' k' q w) queue
    ∙ ap (λ (w : List ℤ). of_words nodes arcs steps last f' l' m' k' q' w) words

pub flows-written : (r s : Words) (l : Layout) (steps last : ℕ) (written : List ℤ) → IsWritten r s l.flows written
    → laid_lists s l steps last ≡ of_words l.nodes l.arcs steps last written (block_words r l.labels) (block_words r l.marks) (block_words r l.walk) (block_words r l.queue) (block_words r l.words)
flows-written r s l steps last written to =
    let laid = l.laid in
    of_words-same l.nodes l.arcs steps last _ _ _ _ _ _ _ _ _ _ _ _
    to.block (to.kept l.labels (inr (omega arith))) (to.kept l.marks (inr (omega arith))) (to.kept l.walk (inr (omega arith))) (to.kept l.queue (inr (omega arith))) (to.kept l.words (inr (omega arith)))

pub labels-written : (r s : Words) (l : Layout) (steps last : ℕ) (written : List ℤ) → IsWritten r s l.labels written
    → laid_lists s l steps last ≡ of_words l.nodes l.arcs steps last (block_words r l.flows) written (block_words r l.marks) (block_words r l.walk) (block_words r l.queue) (block_words r l.words)
labels-written r s l steps last written to =
    let laid = l.laid in
    of_words-same l.nodes l.arcs steps last _ _ _ _ _ _ _ _ _ _ _ _
    (to.kept l.flows (inl (omega arith))) to.block (to.kept l.marks (inr (omega arith))) (to.kept l.walk (inr (omega arith))) (to.kept l.queue (inr (omega arith))) (to.kept l.words (inr (omega arith)))

pub marks-written : (r s : Words) (l : Layout) (steps last : ℕ) (written : List ℤ) → IsWritten r s l.marks written
    → laid_lists s l steps last ≡ of_words l.nodes l.arcs steps last (block_words r l.flows) (block_words r l.labels) written (block_words r l.walk) (block_words r l.queue) (block_words r l.words)
marks-written r s l steps last written to =
    let laid = l.laid in
    of_words-same l.nodes l.arcs steps last _ _ _ _ _ _ _ _ _ _ _ _
    (to.kept l.flows (inl (omega arith))) (to.kept l.labels (inl (omega arith))) to.block (to.kept l.walk (inr (omega arith))) (to.kept l.queue (inr (omega arith))) (to.kept l.words (inr (omega arith)))

pub walk-written : (r s : Words) (l : Layout) (steps last : ℕ) (written : List ℤ) → IsWritten r s l.walk written
    → laid_lists s l steps last ≡ of_words l.nodes l.arcs steps last (block_words r l.flows) (block_words r l.labels) (block_words r l.marks) written (block_words r l.queue) (block_words r l.words)
walk-written r s l steps last written to =
    let laid = l.laid in
    of_words-same l.nodes l.arcs steps last _ _ _ _ _ _ _ _ _ _ _ _
    (to.kept l.flows (inl (omega arith))) (to.kept l.labels (inl (omega arith))) (to.kept l.marks (inl (omega arith))) to.block (to.kept l.queue (inr (omega arith))) (to.kept l.words (inr (omega arith)))

pub queue-written : (r s : Words) (l : Layout) (steps last : ℕ) (written : List ℤ) → IsWritten r s l.queue written
    → laid_lists s l steps last ≡ of_words l.nodes l.arcs steps last (block_words r l.flows) (block_words r l.labels) (block_words r l.marks) (block_words r l.walk) written (block_words r l.words)
queue-written r s l steps last written to =
    let laid = l.laid in
    of_words-same l.nodes l.arcs steps last _ _ _ _ _ _ _ _ _ _ _ _
    (to.kept l.flows (inl (omega arith))) (to.kept l.labels (inl (omega arith))) (to.kept l.marks (inl (omega arith))) (to.kept l.walk (inl (omega arith))) to.block (to.kept l.words (inr (omega arith)))

pub words-written : (r s : Words) (l : Layout) (steps last : ℕ) (written : List ℤ) → IsWritten r s l.words written
    → laid_lists s l steps last ≡ of_words l.nodes l.arcs steps last (block_words r l.flows) (block_words r l.labels) (block_words r l.marks) (block_words r l.walk) (block_words r l.queue) written
words-written r s l steps last written to =
    let laid = l.laid in
    of_words-same l.nodes l.arcs steps last _ _ _ _ _ _ _ _ _ _ _ _
    (to.kept l.flows (inl (omega arith))) (to.kept l.labels (inl (omega arith))) (to.kept l.marks (inl (omega arith))) (to.kept l.walk (inl (omega arith))) (to.kept l.queue (inl (omega arith))) to.block

-- ---- the one list of the room that changes

pub label-written : (r s : Words) (l : Layout) (steps last i : ℕ) (word : ℤ) (t : Step)
    → IsWritten r s l.labels (set (block_words r l.labels) i word) → word ≡ word_of t → t.arc.0 < 2 ^ 32
    → laid_lists s l steps last
    ≡ record (laid_lists r l steps last) { labels = set (map label_of (block_words r l.labels)) i (Some t) }
label-written r s l steps last i word t written is small =
    let make : List (Option Step) → Lists = λ labels. record (laid_lists r l steps last) { labels = labels } in
    labels-written r s l steps last (set (block_words r l.labels) i word) written
    ∙ ap (λ w. make (map label_of (set (block_words r l.labels) i w))) is
    ∙ ap make (labels-set (block_words r l.labels) i t small)

pub labels-cleared : (r s : Words) (l : Layout) (steps last : ℕ) → IsWritten r s l.labels (replicate l.labels.len (pos 0))
    → laid_lists s l steps last ≡ record (laid_lists r l steps last) { labels = replicate l.nodes None }
labels-cleared r s l steps last written =
    let make : List (Option Step) → Lists = λ labels. record (laid_lists r l steps last) { labels = labels } in
    labels-written r s l steps last (replicate l.labels.len (pos 0)) written
    ∙ ap make (map-zeros label_of l.labels.len)
    ∙ ap (λ n. make (replicate n None)) l.laid.labels_len

pub mark-written : (r s : Words) (l : Layout) (steps last i : ℕ) → IsWritten r s l.marks (set (block_words r l.marks) i (pos 1))
    → laid_lists s l steps last
    ≡ record (laid_lists r l steps last) { reached = set (map mark_of (block_words r l.marks)) i true }
mark-written r s l steps last i written =
    let make : List Bool → Lists = λ marks. record (laid_lists r l steps last) { reached = marks } in
    marks-written r s l steps last (set (block_words r l.marks) i (pos 1)) written
    ∙ ap make (map-set mark_of (block_words r l.marks) i (pos 1))

pub marks-cleared : (r s : Words) (l : Layout) (steps last : ℕ) → IsWritten r s l.marks (replicate l.marks.len (pos 0))
    → laid_lists s l steps last ≡ record (laid_lists r l steps last) { reached = replicate l.nodes false }
marks-cleared r s l steps last written =
    let make : List Bool → Lists = λ marks. record (laid_lists r l steps last) { reached = marks } in
    marks-written r s l steps last (replicate l.marks.len (pos 0)) written
    ∙ ap make (map-zeros mark_of l.marks.len)
    ∙ ap (λ n. make (replicate n false)) l.laid.marks_len

-- the walk goes on by one step
pub step-pushed : (r s : Words) (l : Layout) (steps last : ℕ) (word : ℤ) (t : Step) → IsFull r l → steps < l.nodes
    → IsWritten r s l.walk (set (block_words r l.walk) steps word) → word ≡ word_of t → t.arc.0 < 2 ^ 32
    → laid_lists s l (steps + 1) last
    ≡ record (laid_lists r l steps last) { walk = map step_of (take steps (block_words r l.walk)) ++ t ∷ [] }
step-pushed r s l steps last word t full room written is small =
    let walk = block_words r l.walk in
    let make : List Step → Lists = λ walk. record (laid_lists r l steps last) { walk = walk } in
    let long = length-walk r l full in
    walk-written r s l (steps + 1) last (set walk steps word) written
    ∙ ap (λ w. make (map step_of (take (steps + 1) (set walk steps w)))) is
    ∙ ap (λ words. make (map step_of words)) (take_more_set walk steps (word_of t) (omega arith))
    ∙ ap make (map_push step_of (take steps walk) (word_of t))
    ∙ ap (λ (u : Step). make (map step_of (take steps walk) ++ u ∷ [])) (step-word t small)

pub walk-turned : (r s : Words) (l : Layout) (steps last : ℕ) → IsFull r l → steps ≤ l.nodes
    → IsWritten r s l.walk (reverse_front steps (block_words r l.walk))
    → laid_lists s l steps last
    ≡ record (laid_lists r l steps last) { walk = reverse (map step_of (take steps (block_words r l.walk))) }
walk-turned r s l steps last full short written =
    let walk = block_words r l.walk in
    let make : List Step → Lists = λ walk. record (laid_lists r l steps last) { walk = walk } in
    let long = length-walk r l full in
    let front = length-take-le steps walk (omega arith) in
    walk-written r s l steps last (reverse_front steps walk) written
    ∙ ap (λ words. make (map step_of words))
    (take_at (reverse (take steps walk)) (drop steps walk) steps (length-reverse (take steps walk) ∙ front))
    ∙ ap make (map-reverse step_of (take steps walk))

-- a word for the queue: one of those in the region, or the last one behind them
pub slot-written : (r s : Words) (l : Layout) (steps last k n : ℕ) (word : ℤ) → IsFull r l → k < 2 * l.nodes
    → IsWritten r s l.queue (set (block_words r l.queue) k word) → word ≡ pos n → n < 2 ^ 32
    → laid_lists s l steps last
    ≡ record (laid_lists r l steps last) { queue = set (map index_of (block_words r l.queue) ++ last ∷ []) k n }
slot-written r s l steps last k n word full there written is small =
    let words = map index_of (block_words r l.queue) in
    let long : length words ≡ 2 * l.nodes = length-map (block_words r l.queue) index_of ∙ length-queue r l full in
    let make : List ℕ → Lists = λ queue. record (laid_lists r l steps last) { queue = queue } in
    queue-written r s l steps last (set (block_words r l.queue) k word) written
    ∙ ap (λ w. make (map index_of (set (block_words r l.queue) k w) ++ last ∷ [])) is
    ∙ ap (λ (queue : List ℕ). make (queue ++ last ∷ [])) (queue-set (block_words r l.queue) k n small)
    ∙ ap make (sym (set-append_left words (last ∷ []) k n (omega arith)))

pub last-written : (r : Words) (l : Layout) (steps last k n : ℕ) → IsFull r l → k ≡ 2 * l.nodes
    → laid_lists r l steps n
    ≡ record (laid_lists r l steps last) { queue = set (map index_of (block_words r l.queue) ++ last ∷ []) k n }
last-written r l steps last k n full here =
    let words = map index_of (block_words r l.queue) in
    let long : length words ≡ 2 * l.nodes = length-map (block_words r l.queue) index_of ∙ length-queue r l full in
    let make : List ℕ → Lists = λ queue. record (laid_lists r l steps last) { queue = queue } in
    ap make (sym (set_at words last [] n k (long ∙ sym here)))

-- a word of the front is a potential, and one behind it of the scratch
pub potential-written : (r s : Words) (l : Layout) (steps last i : ℕ) (z : ℤ)
    → IsWritten r s l.words (set (block_words r l.words) i z) → i < l.nodes
    → laid_lists s l steps last
    ≡ record (laid_lists r l steps last) { potentials = set (take l.nodes (block_words r l.words)) i z }
potential-written r s l steps last i z written there =
    let make : List ℤ → List ℤ → Lists = λ potentials scratch. record (laid_lists r l steps last) { potentials = potentials; scratch = scratch } in
    words-written r s l steps last (set (block_words r l.words) i z) written
    ∙ ap₂ make (take-set-lt l.nodes (block_words r l.words) i z there) (drop-set-lt l.nodes (block_words r l.words) i z there)

pub scratch-written : (r s : Words) (l : Layout) (steps last k : ℕ) (z : ℤ)
    → IsWritten r s l.words (set (block_words r l.words) (l.nodes + k) z)
    → laid_lists s l steps last
    ≡ record (laid_lists r l steps last) { scratch = set (drop l.nodes (block_words r l.words)) k z }
scratch-written r s l steps last k z written =
    let make : List ℤ → List ℤ → Lists = λ potentials scratch. record (laid_lists r l steps last) { potentials = potentials; scratch = scratch } in
    words-written r s l steps last (set (block_words r l.words) (l.nodes + k) z) written
    ∙ ap₂ make (take-set-le l.nodes (block_words r l.words) (l.nodes + k) z (omega arith)) (drop-set-add l.nodes (block_words r l.words) k z)
