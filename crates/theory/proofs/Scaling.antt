-- Scaling the fraction. Each move into a range scales with the number moved, since the ends are taken q times: so
-- each piece's rise does, the cost, and each of the values among which the conjugate cost is the greatest.
use Rattle.std.proofs.Common.{◌≡◌, ℕ, ℤ, pos, sym, ap, ◌∙◌, arith}
use Rattle.std.specs.Prelude.{◌-ℤ◌, ◌*ℤ◌}
use Rattle.theory.specs.CurveList.{Listing, Piece, pieces}
use Rattle.theory.specs.Domain.{rest_point}
use Rattle.theory.specs.Cost.{rise, cost}
use Rattle.theory.specs.ConjugateCost.{listed_points, conjugate_cost}
use Rattle.theory.specs.CurveLaws.{ScalingLaw}
use Rattle.theory.proofs.Rings.{rings, one_times}
use Rattle.theory.proofs.Sums.{sum_over-scale, greatest_over-scale}
use Rattle.theory.proofs.Clip.{clip-scale}

swapped : (a b c : ℤ) → a *ℤ (b *ℤ c) ≡ b *ℤ (a *ℤ c)
swapped a b c = omega (arith, rings)

spread : (q s a b x y : ℤ) → a ≡ q *ℤ x → b ≡ q *ℤ y → s *ℤ (a -ℤ b) ≡ q *ℤ (s *ℤ (x -ℤ y))
spread q s a b x y e f =
    let difference : a -ℤ b ≡ q *ℤ (x -ℤ y) = omega (arith, rings) in
    ap (λ d. s *ℤ d) difference ∙ swapped s q (x -ℤ y)

pub rise-scale : (q : ℕ) (x y : ℤ) (k : Piece) → rise q (pos q *ℤ x) (pos q *ℤ y) k ≡ pos q *ℤ rise 1 x y k
rise-scale q x y k = spread (pos q) k.slope _ _ _ _ (clip-scale q k.left k.right y) (clip-scale q k.left k.right x)

pub cost-scale : (q : ℕ) (c : Listing) (x : ℤ) → cost q c (pos q *ℤ x) ≡ pos q *ℤ cost 1 c x
cost-scale q c x =
    let at_rest = one_times (rest_point c.items) in
    let sum = sum_over-scale (pos q) (rise q (pos q *ℤ rest_point c.items) (pos q *ℤ x)) (rise 1 (rest_point c.items) x) (pieces c.items) (rise-scale q (rest_point c.items) x) in
    rw (at_rest, one_times c.base, sum) (omega (arith, rings))

value-scale : (q : ℤ) (f g b z : ℤ) → f ≡ q *ℤ g → q *ℤ z *ℤ b -ℤ f ≡ q *ℤ (z *ℤ b -ℤ g)
value-scale q f g b z e = rw e (omega (arith, rings))

pub conjugate_cost-scale : (q : ℕ) (c : Listing) (z : ℤ) → conjugate_cost q c (pos q *ℤ z) ≡ pos q *ℤ conjugate_cost 1 c z
conjugate_cost-scale q c z =
    greatest_over-scale
    q
    (λ b. pos q *ℤ z *ℤ b -ℤ cost q c (pos q *ℤ b))
    (λ b. z *ℤ b -ℤ cost 1 c (pos 1 *ℤ b))
    (listed_points c.items)
    (λ b. value-scale (pos q) (cost q c (pos q *ℤ b)) (cost 1 c (pos 1 *ℤ b)) b z (cost-scale q c b ∙ ap (λ x. pos q *ℤ cost 1 c x) (sym (one_times b))))

pub scaling : ScalingLaw
scaling q c z positive list = (cost-scale q c z, conjugate_cost-scale q c z)
