-- Curve list: breakpoints and slopes in turn, `p0 s1 p1 s2 .. sr pr`, with the cost at the rest point as base.
-- It is a convex piecewise-linear cost by its breakpoints and slopes, and a characteristic curve (a maximal monotone
-- relation of steps) at once: a characteristic curve of Rockafellar, Network Flows and Monotropic Optimization (1984).
use Rattle.std.specs.Prelude.{◌≡◌, ℕ, ◌+◌, ◌%◌, ◌<◌, ℤ, List, [], ◌∷◌, length, slice_index_or}
use Rattle.theory.specs.declared.ext.Ext.{Ext}
use Rattle.theory.specs.declared.ext.Ext.TheVariants.{MinusInf, At, PlusInf}
use Rattle.theory.specs.Ends.{IsFinite, IsBelow}

abbrev pub item : List Ext → ℕ → Ext
item items i = slice_index_or items i MinusInf

-- Points stand at the even places and slopes at the odd ones; both rise strictly. Only the first point may be
-- minus infinity and only the last may be plus infinity; a single point is finite.
pub record IsCurveList (items : List Ext) : Type 0 where
  pub odd : length items % 2 ≡ 1
  pub rises : (k : ℕ) → k + 2 < length items → IsBelow (item items k) (item items (k + 2))
  pub inner_finite : (k : ℕ) → 0 < k → k + 1 < length items → IsFinite (item items k)
  pub single_finite : length items ≡ 1 → IsFinite (item items 0)

-- a curve as it is listed: the list and the base
pub record Listing : Type 0 where
  pub items : List Ext
  pub base : ℤ

-- a piece of the curve: its slope between its two points
pub record Piece : Type 0 where
  pub left : Ext
  pub slope : ℤ
  pub right : Ext

abbrev pub pieces : List Ext → List Piece
pieces (p ∷ At s ∷ r ∷ rest) = record { left = p; slope = s; right = r } ∷ pieces (r ∷ rest)
pieces items = []

abbrev pub first : List Ext → Ext
first [] = MinusInf
first (p ∷ rest) = p

abbrev pub last : List Ext → Ext
last [] = PlusInf
last (p ∷ []) = p
last (p ∷ r ∷ rest) = last (r ∷ rest)

-- the item before the last one
abbrev pub before_last : List Ext → Ext
before_last [] = PlusInf
before_last (p ∷ []) = PlusInf
before_last (s ∷ p ∷ []) = s
before_last (p ∷ s ∷ r ∷ rest) = before_last (s ∷ r ∷ rest)
