-- Blocks: parts of a region's words. Two blocks are apart where one ends before the other begins.
use Rattle.std.specs.Prelude.{◌≡◌, ◌⊎◌, ℕ, ◌+◌, ◌≤◌, ℤ, pos, List, ◌++◌, length, take, drop, replicate, reverse}
use Rattle.work_region.specs.declared.block.Block.{Block}
use Rattle.work_region.specs.Words.{Words}

abbrev pub end_of : Block → ℕ
end_of b = b.start + b.len

-- the block lies among the words that were carved
pub record IsBlockOf (w : Words) (b : Block) : Type 0 where
  pub inside : end_of b ≤ length w.carved

abbrev pub block_words : Words → Block → List ℤ
block_words w b = take b.len (drop b.start w.carved)

abbrev pub AreApart : Block → Block → Type 0
AreApart b c = (end_of b ≤ c.start) ⊎ (end_of c ≤ b.start)

-- a block of this length was carved from words that lay in no block: it is apart from every earlier block, and these stay as
-- they are
pub record IsCarved (old new : Words) (len : ℕ) (b : Block) : Type 0 where
  pub start : b.start ≡ length old.carved
  pub size : b.len ≡ len
  pub count : length new.carved ≡ length old.carved + len
  pub left : new.left + len ≡ old.left
  pub zero : block_words new b ≡ replicate len (pos 0)
  pub apart : (c : Block) → IsBlockOf old c → AreApart c b
  pub kept : (c : Block) → IsBlockOf old c → block_words new c ≡ block_words old c

-- these words were written to the block, and every block apart from it stays as it is
pub record IsWritten (old new : Words) (b : Block) (words : List ℤ) : Type 0 where
  pub count : length new.carved ≡ length old.carved
  pub left : new.left ≡ old.left
  pub block : block_words new b ≡ words
  pub kept : (c : Block) → AreApart c b → block_words new c ≡ block_words old c

-- the first words in reverse order, and the others as they were
abbrev pub reverse_front : ℕ → List ℤ → List ℤ
reverse_front count words = reverse (take count words) ++ drop count words
