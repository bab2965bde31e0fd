-- One pivot: the arcs of row r and column s change places. With p the entry there, which is 1 or -1, the rest follows from
-- the two laws.
use Rattle.std.specs.Prelude.{◌≡◌, ℕ, ◌<◌, ◌==◌, ℤ, ◌-ℤ◌, ◌*ℤ◌, neg_ℤ, if◌then◌else◌, length, slice_set}
use Rattle.tucker_tableau.specs.Tableau.{number}
use Rattle.tucker_tableau.specs.Table.{Table, entry}

abbrev pub pivoted : (ℕ → ℕ → ℤ) → ℕ → ℕ → ℕ → ℕ → ℤ
pivoted a r s i j =
    if i == r then (if j == s then a r s else (neg_ℤ (a r s *ℤ a r j)))
    else (if j == s then a r s *ℤ a i s else (a i j -ℤ (a r s *ℤ a i s) *ℤ a r j))

pub record IsPivoted (old new : Table) (r s : ℕ) : Type 0 where
  pub rows : new.rows ≡ slice_set old.rows r (number old.columns s)
  pub columns : new.columns ≡ slice_set old.columns s (number old.rows r)
  pub size : length new.entries ≡ length old.entries
  pub entries : (i j : ℕ) → i < length old.rows → j < length old.columns → entry new i j ≡ pivoted (entry old) r s i j
