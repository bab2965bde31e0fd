-- How far a grounded network is built: all nodes, and the first k of its arcs with their curves.
use Rattle.std.specs.Prelude.{◌≡◌, ℕ, ◌+◌, List, length, take}
use Rattle.theory.specs.CurveList.{Listing}
use Rattle.theory.specs.Grounded.{Entries, grounded}
use Rattle.net_incidence.specs.Graph.{Graph}

pub record IsBuilt (m : Entries) (k : ℕ) (g : Graph) (listed : List Listing) : Type 0 where
  pub nodes : g.nodes ≡ length m.nodes + 1
  pub arcs : g.arcs ≡ take k (grounded m).arcs
  pub curves : listed ≡ take k (grounded m).curves
