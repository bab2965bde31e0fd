-- The pieces so far, with one more. What is a piece of the rest, followed by the pieces of what it leaves, are pieces of the rest.
use Rattle.std.proofs.Common.{◌≡◌, ℕ, ◌<◌, ℤ, pos, List, [], ◌∷◌, ◌++◌, length, sym, subst}
use mathlib.Core.Path.{fun_ext}
use Rattle.std.proofs.lemmas.List.{append_assoc, append-nil}
use Rattle.theory.specs.Network.{Network}
use Rattle.flow_pieces.specs.Pieces.{FlowPiece, left_by, IsPiece, ArePieces}
use Rattle.flow_pieces.specs.PiecesLaws.{count_carrying}
use Rattle.flow_pieces.specs.Splitting.{ArePiecesSoFar, GoesOn, StaysEmpty}
use Rattle.flow_pieces.proofs.Falling.{left-nearer, zero-on, count-falls}

module _ (net : Network) (rest left : ℕ → ℤ) (p : FlowPiece) (piece : IsPiece net rest p) (takes : (j : ℕ) → left j ≡ left_by rest p j) where
  pub goes_on-more : (ps more : List FlowPiece) → more ≡ ps ++ p ∷ [] → GoesOn net ps rest more left
  goes_on-more ps more is x so_far later are =
      let P : List FlowPiece → Type 0 = λ qs. ArePieces net x (qs ++ later) in
      let Q : List FlowPiece → Type 0 = λ qs. ArePieces net x qs in
      let R : (ℕ → ℤ) → Type 0 = λ r. ArePieces net r later in
      subst P (sym is) (subst Q (sym (append_assoc ps (p ∷ []) later)) (so_far (p ∷ later) (piece, subst R (fun_ext takes) are)))

  pub stays_empty : StaysEmpty rest left
  stays_empty j none =
      let P : ℤ → Type 0 = λ z. z ≡ pos 0 in
      subst P (sym (takes j)) (zero-on (rest j) (left_by rest p j) (left-nearer rest p piece.circuit.arcs_differ piece.along piece.weighs j) none)

  pub falls : count_carrying (length net.arcs) left < count_carrying (length net.arcs) rest
  falls =
      let P : (ℕ → ℤ) → Type 0 = λ r. count_carrying (length net.arcs) r < count_carrying (length net.arcs) rest in
      subst P (sym (fun_ext takes)) (count-falls net rest p piece)

pub none_so_far : (net : Network) (x : ℕ → ℤ) → ArePiecesSoFar net x [] x
none_so_far net x later are = are

pub all_so_far : (net : Network) (x rest : ℕ → ℤ) (ps : List FlowPiece) → ArePiecesSoFar net x ps rest
    → ((j : ℕ) → j < length net.arcs → rest j ≡ pos 0) → ArePieces net x ps
all_so_far net x rest ps so_far none =
    let P : List FlowPiece → Type 0 = λ qs. ArePieces net x qs in
    subst P (append-nil ps) (so_far [] none)
