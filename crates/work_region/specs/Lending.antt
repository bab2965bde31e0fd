-- What becomes of a region when the words that it lent come back.
use Rattle.std.specs.Prelude.{ℤ, List, ◌++◌, length, take, drop}
use Rattle.std.specs.Borrow.{Lends, MutBor, Fml, Array, i64}
use Rattle.std.specs.List.{refill}
use Rattle.work_region.specs.declared.block.Block.{Block}
use Rattle.work_region.specs.Words.{Words}
use Rattle.work_region.specs.contracts.region.Region.{the_row}

-- words written over those of a region from the block's start on; a block lends as many as it has, and as many come back
abbrev pub with_words_from : Words → Block → List ℤ → Words
with_words_from w b words =
    record w { carved = refill (length w.carved) w.carved (take b.start w.carved ++ (words ++ drop (length words) (drop b.start w.carved))) }

abbrev pub LendsBlock : MutBor Words → Block → MutBor (List ℤ) → Fml
LendsBlock w b r = Lends the_row (Array i64 0) w r (with_words_from w.now b)
