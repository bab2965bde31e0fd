-- On the curve: the flow x / q and the tension v / q form a pair of the characteristic curve, the subdifferential
-- of the cost. The flow is in the domain; no piece that begins below it is steeper than the tension, and no piece
-- that ends above it is flatter.
use Rattle.std.specs.Prelude.{ℕ, ℤ, pos, ◌*ℤ◌, ◌≤ℤ◌, List}
use Rattle.theory.specs.declared.ext.Ext.{Ext}
use Rattle.theory.specs.Sums.{Each}
use Rattle.theory.specs.Ends.{IsPast, IsBefore}
use Rattle.theory.specs.CurveList.{Piece, pieces}
use Rattle.theory.specs.Domain.{InDomain}

pub record FitsPiece (q : ℕ) (x v : ℤ) (k : Piece) : Type 0 where
  pub begins_below : IsPast q k.left x → (pos q *ℤ k.slope) ≤ℤ v
  pub ends_above : IsBefore q k.right x → v ≤ℤ (pos q *ℤ k.slope)

pub record IsOnCurve (q : ℕ) (items : List Ext) (x v : ℤ) : Type 0 where
  pub in_domain : InDomain q items x
  pub on_pieces : Each (FitsPiece q x v) (pieces items)
