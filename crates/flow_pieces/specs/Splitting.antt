-- How the pieces of a flow come about: each is taken off what the ones before it left.
use Rattle.std.specs.Prelude.{◌≡◌, ℕ, ℤ, pos, List, ◌++◌}
use Rattle.theory.specs.Network.{Network}
use Rattle.flow_pieces.specs.declared.list.Piece.{Piece}
use Rattle.flow_pieces.specs.Pieces.{FlowPiece, ArePieces}

abbrev pub piece_of : Piece → FlowPiece
piece_of p = record { weight = p.weight; walk = p.walk.items }

-- with the pieces of the rest they are pieces of the whole
abbrev pub ArePiecesSoFar : Network → (ℕ → ℤ) → List FlowPiece → (ℕ → ℤ) → Type 0
ArePiecesSoFar net x ps rest = (later : List FlowPiece) → ArePieces net rest later → ArePieces net x (ps ++ later)

-- whatever flow they were pieces of so far, they are still
abbrev pub GoesOn : Network → List FlowPiece → (ℕ → ℤ) → List FlowPiece → (ℕ → ℤ) → Type 0
GoesOn net ps rest more left = (x : ℕ → ℤ) → ArePiecesSoFar net x ps rest → ArePiecesSoFar net x more left

-- an arc that carries nothing carries nothing later
abbrev pub StaysEmpty : (ℕ → ℤ) → (ℕ → ℤ) → Type 0
StaysEmpty rest left = (j : ℕ) → rest j ≡ pos 0 → left j ≡ pos 0
