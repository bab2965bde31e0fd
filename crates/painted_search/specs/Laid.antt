-- Where the words of a room lie: a block each for the flows, the labels, the marks, the walk and the queue, and one for the potentials
-- and the scratch, one behind another.
use Rattle.std.specs.Prelude.{◌≡◌, ℕ, ◌+◌, ◌*◌, ◌≤◌}
use Rattle.work_region.specs.declared.block.Block.{Block}
use Rattle.painted_search.specs.Room.{count_most}

abbrev pub words_for : ℕ → ℕ → ℕ
words_for nodes arcs = arcs + 8 * nodes

pub record IsLaid (nodes arcs : ℕ) (flows labels marks walk queue words : Block) : Type 0 where
  pub some_node : 1 ≤ nodes
  pub few_nodes : nodes ≤ count_most
  pub few_arcs : arcs ≤ count_most
  pub flows_start : flows.start ≡ 0
  pub flows_len : flows.len ≡ arcs
  pub labels_start : labels.start ≡ arcs
  pub labels_len : labels.len ≡ nodes
  pub marks_start : marks.start ≡ arcs + nodes
  pub marks_len : marks.len ≡ nodes
  pub walk_start : walk.start ≡ arcs + 2 * nodes
  pub walk_len : walk.len ≡ nodes
  pub queue_start : queue.start ≡ arcs + 3 * nodes
  pub queue_len : queue.len ≡ 2 * nodes
  pub words_start : words.start ≡ arcs + 5 * nodes
  pub words_len : words.len ≡ 3 * nodes
