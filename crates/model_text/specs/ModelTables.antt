-- The tables of a model as its entries.
use Rattle.std.specs.Prelude.{ℕ, List, map}
use Rattle.std.specs.declared.vec.Vec.{Vec}
use Rattle.theory.specs.Grounded.{Entries, NodeEntry, ArcEntry}
use Rattle.mono_curve.specs.declared.curve.Curve.{Curve}
use Rattle.model_text.specs.declared.model.Joining.{Joining}

module _ {A : Type 0} where
  abbrev pub node_entry : Vec ℕ A × Curve → NodeEntry
  node_entry row = record { name = row.0.items; supply = row.1.listing }

  abbrev pub arc_entry : Vec ℕ A × Joining → ArcEntry
  arc_entry row = record { name = row.0.items; from = row.1.from; to = row.1.to; curve = row.1.curve.listing }

  abbrev pub table_entries : List (Vec ℕ A × Curve) → List (Vec ℕ A × Joining) → Entries
  table_entries nodes arcs = record { nodes = map node_entry nodes; arcs = map arc_entry arcs }
