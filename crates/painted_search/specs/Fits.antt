-- A room fits a net that has the counts of nodes and arcs that it was taken for. No write changes these counts.
use Rattle.std.specs.Prelude.{◌≡◌, ℕ, length}
use Rattle.net_incidence.specs.Graph.{Graph}
use Rattle.painted_search.specs.Room.{Room}

pub record AreCounts (nodes arcs nodes_taken arcs_taken : ℕ) : Type 0 where
  pub same_nodes : nodes_taken ≡ nodes
  pub same_arcs : arcs_taken ≡ arcs

abbrev pub Fits : Graph → Room → Type 0
Fits g w = AreCounts g.nodes (length g.arcs) w.nodes w.arcs
