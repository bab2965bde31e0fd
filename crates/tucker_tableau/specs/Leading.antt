-- How `lead` goes on from arc to arc.
use Rattle.std.specs.Prelude.{◌≡◌, ◌⊎◌, ℕ, Option, length, MatchOption}
use Rattle.theory.specs.Network.{Network, IsNetwork}
use Rattle.tucker_tableau.specs.Table.{Table, IsTableauOf}
use Rattle.tucker_tableau.specs.Places.{IsNowhere, IsAt}
use Rattle.tucker_tableau.specs.Lead.{IsModelNetwork, NoGround, IsGreatest, IsTaken, IsLedTo}

-- the best of the first rows so far
abbrev pub IsBest : Table → ℕ → ℕ → Option ℕ → Type 0
IsBest table column count best =
    MatchOption best (NoGround table (length table.rows) column count) (IsGreatest table (length table.rows) column count)

-- arc k was looked at
abbrev pub IsLookedAt : Table → Table → ℕ → Type 0
IsLookedAt old new k =
    (IsNowhere old.columns k × (new ≡ old)) ⊎ ((s : ℕ) × IsAt old.columns k s × IsTaken old new (length old.rows) s)

abbrev pub KeepsTableau : Table → Table → Type 0
KeepsTableau old new = (net : Network) → IsNetwork net → IsTableauOf net old → IsTableauOf net new

-- the model arcs below k were looked at
pub record IsLeading (old now : Table) (k : ℕ) : Type 0 where
  pub rows : length now.rows ≡ length old.rows
  pub columns : length now.columns ≡ length old.columns
  pub keeps : KeepsTableau old now
  pub led : (net : Network) → IsNetwork net → IsModelNetwork net (length old.rows) → IsTableauOf net old → IsLedTo net (length old.rows) now.rows k
