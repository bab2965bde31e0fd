-- What a region is seen as: the words of its blocks, one block behind another, and how many words lie in no block.
use Rattle.std.specs.Prelude.{ℕ, ℤ, List}

pub record Words : Type 0 where
  pub carved : List ℤ
  pub left : ℕ
