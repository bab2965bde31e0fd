-- The network of curve lists without bases: all that flows, potentials, cuts and circuits ask for, since a base moves a cost
-- and nothing else.
use Rattle.std.specs.Prelude.{◌≡◌, ℕ, ◌+◌, ◌≤◌, pos, List, length, map}
use Rattle.theory.specs.declared.ext.Ext.{Ext}
use Rattle.theory.specs.CurveList.{Listing}
use Rattle.theory.specs.Limits.{grounded_nodes_most, grounded_arcs_most}
use Rattle.theory.specs.Network.{Network}
use Rattle.net_incidence.specs.Graph.{Graph, network}

abbrev pub without_base : List Ext → Listing
without_base items = record { items = items; base = pos 0 }

abbrev pub without_bases : Graph → List (List Ext) → Network
without_bases g lists = network g (map without_base lists)

-- the most arcs that the passes over curves take: those of a network with the ground, and one that leads back from a goal to a start
abbrev pub passable_arcs_most : ℕ
passable_arcs_most = grounded_arcs_most + 1

-- what the passes over curves ask for: a curve for each arc, and counts that keep every sum in its type
pub record IsPassable (g : Graph) (curves : ℕ) : Type 0 where
  pub one_curve_each : curves ≡ length g.arcs
  pub some_node : 1 ≤ g.nodes
  pub few_nodes : g.nodes ≤ grounded_nodes_most
  pub few_arcs : length g.arcs ≤ passable_arcs_most
