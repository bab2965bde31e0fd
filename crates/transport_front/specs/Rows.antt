-- The tables of the code as a table.
use Rattle.std.specs.Prelude.{ℕ, List, map}
use Rattle.std.specs.declared.vec.Vec.{Vec}
use Rattle.transport_front.specs.declared.table.Kind.{Kind as Held}
use Rattle.transport_front.specs.declared.table.Kind.TheVariants.{Plant, Shop}
use Rattle.transport_front.specs.declared.table.Lane.{Lane as Joining}
use Rattle.transport_front.specs.Table.{Kind, Place, Lane, Table}
use Rattle.transport_front.specs.Table.Kind.{plant, shop}

abbrev pub kind_of : Held → Kind
kind_of (Plant pairs) = plant pairs.items
kind_of (Shop demand) = shop demand

module _ {A : Type 0} where
  abbrev pub place_row : Vec ℕ A × Held → Place
  place_row row = record { name = row.0.items; kind = kind_of row.1 }

  abbrev pub lane_row : Vec ℕ A × Joining → Lane
  lane_row row = record { name = row.0.items; from = row.1.from; to = row.1.to; pairs = row.1.pairs.items }

  abbrev pub rows_table : List (Vec ℕ A × Held) → List (Vec ℕ A × Joining) → Table
  rows_table places lanes = record { places = map place_row places; lanes = map lane_row lanes }
