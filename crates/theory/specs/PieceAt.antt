-- The pieces of a list by their numbers, from 0: what code reads that goes by places.
use Rattle.std.specs.Prelude.{ℕ, ◌+◌, ◌*◌, List}
use Rattle.theory.specs.declared.ext.Ext.{Ext}
use Rattle.theory.specs.Ends.{whole}
use Rattle.theory.specs.CurveList.{Piece, item}

-- the piece that three items in a row make
abbrev pub piece_of : Ext → Ext → Ext → Piece
piece_of left slope right = record { left = left; slope = whole slope; right = right }

abbrev pub piece_at : List Ext → ℕ → Piece
piece_at items k = piece_of (item items (2 * k)) (item items (2 * k + 1)) (item items (2 * k + 2))
