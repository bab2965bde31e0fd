-- Conjugate cost over a denominator: q times the convex conjugate at the tension w / q (Rockafellar: the conjugate),
-- the greatest of flow times tension less cost. On the span the greatest is met at a finite point of the list,
-- or at the rest point where the list has none.
use Rattle.std.specs.Prelude.{ℕ, ℤ, pos, ◌-ℤ◌, ◌*ℤ◌, List, [], ◌∷◌}
use Rattle.theory.specs.declared.ext.Ext.{Ext}
use Rattle.theory.specs.declared.ext.Ext.TheVariants.{MinusInf, At, PlusInf}
use Rattle.theory.specs.Sums.{greatest_over}
use Rattle.theory.specs.CurveList.{Listing}
use Rattle.theory.specs.Domain.{rest_point}
use Rattle.theory.specs.Cost.{cost}

abbrev pub with_finite : Ext → List ℤ → List ℤ
with_finite MinusInf points = points
with_finite (At a) points = a ∷ points
with_finite PlusInf points = points

abbrev pub finite_points : List Ext → List ℤ
finite_points [] = []
finite_points (p ∷ []) = with_finite p []
finite_points (p ∷ s ∷ rest) = with_finite p (finite_points rest)

abbrev pub or_one : List ℤ → ℤ → List ℤ
or_one [] x = x ∷ []
or_one (a ∷ points) x = a ∷ points

-- the flows among which the greatest is met
abbrev pub listed_points : List Ext → List ℤ
listed_points items = or_one (finite_points items) (rest_point items)

abbrev pub conjugate_cost : ℕ → Listing → ℤ → ℤ
conjugate_cost q c w = greatest_over (λ b. w *ℤ b -ℤ cost q c (pos q *ℤ b)) (listed_points c.items)
