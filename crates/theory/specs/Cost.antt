-- Cost over a denominator: q times the cost of the flow x / q. The cost is the base at the rest point and has
-- each piece's slope along that piece.
use Rattle.std.specs.Prelude.{ℕ, ℤ, pos, ◌+ℤ◌, ◌-ℤ◌, ◌*ℤ◌}
use Rattle.theory.specs.Sums.{sum_over}
use Rattle.theory.specs.CurveList.{Listing, Piece, pieces}
use Rattle.theory.specs.Domain.{clip, rest_point}

-- what the cost rises by along one piece, from the flow x / q to the flow y / q
abbrev pub rise : ℕ → ℤ → ℤ → Piece → ℤ
rise q x y k = k.slope *ℤ (clip q k.left k.right y -ℤ clip q k.left k.right x)

abbrev pub cost : ℕ → Listing → ℤ → ℤ
cost q c x = pos q *ℤ c.base +ℤ sum_over (rise q (pos q *ℤ rest_point c.items) x) (pieces c.items)
