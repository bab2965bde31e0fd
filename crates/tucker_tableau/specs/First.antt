-- The first tableau: the rows are the arcs of the ground, the columns the other arcs, both in the order of their numbers.
use Rattle.std.specs.Prelude.{◌≡◌, ℕ, ◌+◌, ◌<◌, ◌==◌, ℤ, pos, ◌-ℤ◌, List, [], ◌∷◌, length}
use Rattle.theory.specs.Sums.{counted}
use Rattle.theory.specs.Network.{Network, tail, head}
use Rattle.tucker_tableau.specs.Tableau.{number}
use Rattle.tucker_tableau.specs.Table.{Table, entry}

-- 1 where the arc n + j begins at node i + 1, -1 where it ends there
abbrev pub star : Network → ℕ → ℕ → ℕ → ℤ
star net n i j = counted (tail net (n + j) == i + 1) (pos 1) -ℤ counted (head net (n + j) == i + 1) (pos 1)

pub record IsFirst (net : Network) (table : Table) : Type 0 where
  pub row_count : length table.rows + 1 ≡ net.nodes
  pub column_count : length table.rows + length table.columns ≡ length net.arcs
  pub rows : (i : ℕ) → i < length table.rows → number table.rows i ≡ i
  pub columns : (j : ℕ) → j < length table.columns → number table.columns j ≡ length table.rows + j
  pub entries : (i j : ℕ) → i < length table.rows → j < length table.columns → entry table i j ≡ star net (length table.rows) i j

-- three rows of three entries, one after the other
abbrev pub row_by_row : (ℕ → ℕ → ℤ) → List ℤ
row_by_row a = a 0 0 ∷ a 0 1 ∷ a 0 2 ∷ a 1 0 ∷ a 1 1 ∷ a 1 2 ∷ a 2 0 ∷ a 2 1 ∷ a 2 2 ∷ []
