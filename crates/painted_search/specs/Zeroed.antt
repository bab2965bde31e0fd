-- All words of a room are 0.
use Rattle.std.specs.Prelude.{◌≡◌, ◌*◌, pos, replicate}
use Rattle.work_region.specs.Words.{Words}
use Rattle.work_region.specs.Blocks.{block_words}
use Rattle.painted_search.specs.declared.layout.Layout.{Layout}

pub record IsZeroed (r : Words) (l : Layout) : Type 0 where
  pub flows : block_words r l.flows ≡ replicate l.arcs (pos 0)
  pub labels : block_words r l.labels ≡ replicate l.nodes (pos 0)
  pub marks : block_words r l.marks ≡ replicate l.nodes (pos 0)
  pub queue : block_words r l.queue ≡ replicate (2 * l.nodes) (pos 0)
  pub words : block_words r l.words ≡ replicate (3 * l.nodes) (pos 0)
