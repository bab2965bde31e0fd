-- What a tableau is seen as: the arcs of its rows, the arcs of its columns, and the entries, row after row.
use Rattle.std.specs.Prelude.{ℕ, ◌+◌, ◌*◌, ℤ, pos, List, length, slice_index_or}
use Rattle.theory.specs.Network.{Network}
use Rattle.tucker_tableau.specs.Tableau.{IsTuckerTableau}

pub record Table : Type 0 where
  pub rows : List ℕ
  pub columns : List ℕ
  pub entries : List ℤ

-- the number at a place of a list that has rows of this width
abbrev pub cell : List ℤ → ℕ → ℕ → ℕ → ℤ
cell numbers width i j = slice_index_or numbers (i * width + j) (pos 0)

abbrev pub entry : Table → ℕ → ℕ → ℤ
entry table i j = cell table.entries (length table.columns) i j

abbrev pub IsTableauOf : Network → Table → Type 0
IsTableauOf net table = IsTuckerTableau net table.rows table.columns (entry table)
