-- A model as its entries, in the order of their lines, and what every model keeps.
use Rattle.std.specs.Prelude.{◌≢◌, ℕ, ◌≤◌, Option, None, Some, is_some, nat_le, ◌==◌, if◌then◌else◌, pos, List, [], ◌∷◌, ◌++◌, map, length, position, slice_index_or, All, AllPairs, bytes_eq}
use Rattle.theory.specs.CurveList.{Listing}
use Rattle.theory.specs.Grounded.{Entries, NodeEntry, ArcEntry, IsModel}
use Rattle.theory.specs.Limits.{AreWithin, number_most, IsWithin, nodes_most, arcs_most, list_most}
use Rattle.model_text.specs.Names.{IsName}
use Rattle.model_text.specs.Scale.{IsScale}
use Rattle.model_text.specs.declared.scale.Scale.{Scale}
use Rattle.model_text.specs.declared.model.AddFault.{AddFault}
use Rattle.model_text.specs.declared.model.AddFault.TheVariants.{Twice, Loop, Full}

abbrev pub node_names : Entries → List (List ℕ)
node_names m = map (λ node. node.name) m.nodes

abbrev pub arc_names : Entries → List (List ℕ)
arc_names m = map (λ arc. arc.name) m.arcs

-- the first position of a name among names
abbrev pub place_of : List (List ℕ) → List ℕ → Option ℕ
place_of names name = position (bytes_eq name) names

-- the node, the arc, at a position
abbrev pub node_at : Entries → ℕ → NodeEntry
node_at m i = slice_index_or m.nodes i (record { name = []; supply = record { items = []; base = pos 0 } })

abbrev pub arc_at : Entries → ℕ → ArcEntry
arc_at m j =
    slice_index_or m.arcs j (record { name = []; from = 0; to = 0; curve = record { items = []; base = pos 0 } })

-- ---- models line by line

abbrev pub no_entries : Entries
no_entries = record { nodes = []; arcs = [] }

abbrev pub with_node : Entries → List ℕ → Listing → Entries
with_node m name supply = record m { nodes = m.nodes ++ record { name = name; supply = supply } ∷ [] }

abbrev pub with_arc : Entries → List ℕ → ℕ → ℕ → Listing → Entries
with_arc m name tail head curve =
    record m { arcs = m.arcs ++ record { name = name; from = tail; to = head; curve = curve } ∷ [] }

-- the first fault of a further node, of a further arc
abbrev pub node_fault : Entries → List ℕ → Option AddFault
node_fault m name =
    if is_some (place_of (node_names m) name) then Some Twice
    else (if nat_le nodes_most (length m.nodes) then Some Full else None)

abbrev pub arc_fault : Entries → List ℕ → ℕ → ℕ → Option AddFault
arc_fault m name tail head =
    if is_some (place_of (arc_names m) name) then Some Twice
    else (if tail == head then Some Loop
    else (if nat_le arcs_most (length m.arcs) then Some Full else None))

-- ---- what every model keeps

-- each is a name, and no two are the same
pub record AreNames (names : List (List ℕ)) : Type 0 where
  pub each : All IsName names
  pub differ : AllPairs ◌≢◌ names

-- a curve that a line of a model text can spell
pub record IsWithinLimits (curve : Listing) : Type 0 where
  pub short : length curve.items ≤ list_most
  pub items : AreWithin number_most curve.items
  pub base : IsWithin number_most curve.base

pub record IsWellFormed (m : Entries) : Type 0 where
  pub model : IsModel m
  pub few_nodes : length m.nodes ≤ nodes_most
  pub few_arcs : length m.arcs ≤ arcs_most
  pub nodes_named : AreNames (node_names m)
  pub arcs_named : AreNames (arc_names m)
  pub supplies : All (λ node. IsWithinLimits node.supply) m.nodes
  pub curves : All (λ arc. IsWithinLimits arc.curve) m.arcs

-- what a clause sees of a `Model`: its scale and its entries, and that they are well-formed
pub record Formed : Type 0 where
  pub scale : Scale
  pub scaled : IsScale scale
  pub entries : Entries
  pub formed : IsWellFormed entries
