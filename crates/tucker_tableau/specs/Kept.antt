-- What every tableau keeps: the counts are small, and it is the tableau of some network.
use Rattle.std.specs.Prelude.{◌≡◌, ◌⊎◌, ℕ, ◌+◌, ◌*◌, ◌<◌, ◌≤◌, List, length}
use Rattle.theory.specs.Network.{Network, IsNetwork}
use Rattle.tucker_tableau.specs.Tableau.{number, IsLawful}
use Rattle.tucker_tableau.specs.Table.{Table, entry}

-- the most nodes and the most arcs of a network whose tableau is made
abbrev pub tableau_nodes_most : ℕ
tableau_nodes_most = 200

abbrev pub tableau_arcs_most : ℕ
tableau_arcs_most = 2000

abbrev pub IsTooBig : Network → Type 0
IsTooBig net = (tableau_nodes_most < net.nodes) ⊎ (tableau_arcs_most < length net.arcs)

abbrev pub IsLawfulTable : Network → Table → Type 0
IsLawfulTable net table = IsLawful net table.rows table.columns (entry table)

pub record IsKept (table : Table) : Type 0 where
  pub size : length table.entries ≡ length table.rows * length table.columns
  pub few : length table.rows + length table.columns ≤ tableau_arcs_most
  pub net : Network
  pub good : IsNetwork net
  pub lawful : IsLawfulTable net table

-- the numbers from one on, so many
pub record IsCounting (from count : ℕ) (arcs : List ℕ) : Type 0 where
  pub size : length arcs ≡ count
  pub numbers : (i : ℕ) → i < count → number arcs i ≡ from + i
