use Rattle.std.proofs.Common.{◌≡◌, ◌*◌, ◌^◌, refl, to_z, of_z, to_z-of_z, FitsSigned, arith}
use Rattle.std.specs.Prelude.{◌-ℤ◌, ◌*ℤ◌}
use Rattle.std.specs.Int.{w128}
use Rattle.std.proofs.lemmas.Int.{ints}
use Rattle.theory.specs.Ends.{whole}
use Rattle.theory.specs.Domain.{clip}
use Rattle.theory.specs.Limits.{number_most, IsWithin}
use Rattle.theory.proofs.Bounds.{within_product, within_fits128}
use Rattle.theory.proofs.pricing.rise_of.Goals as goal
use Rattle.theory.proofs.pricing.rise_of.Goals.{After-from-to}

slope_is : (c : After-from-to) → to_z w128 (of_z w128 c.from-slope.result) ≡ whole c.args.slope
slope_is c = let e = c.whole_of.ensures in omega (arith, ints)

to_is : (c : After-from-to) → to_z w128 (of_z w128 c.from-to.result) ≡ clip 1 c.args.left c.args.right c.args.to
to_is c = let e = rw (to_z-of_z c.ranges.to) at c.clip_to-2.ensures in omega (arith, ints)

from_is : (c : After-from-to) → to_z w128 (of_z w128 c.from-from.result) ≡ clip 1 c.args.left c.args.right c.args.from
from_is c = let e = rw (to_z-of_z c.ranges.from) at c.clip_to.ensures in omega (arith, ints)

moved_is : (c : After-from-to) → to_z w128 (of_z w128 (clip 1 c.args.left c.args.right c.args.to -ℤ clip 1 c.args.left c.args.right c.args.from))
    ≡ clip 1 c.args.left c.args.right c.args.to -ℤ clip 1 c.args.left c.args.right c.args.from
moved_is c =
    let e = rw (to_z-of_z c.ranges.to) at c.clip_to-2.ensures in
    let f = rw (to_z-of_z c.ranges.from) at c.clip_to.ensures in
    omega (arith, ints)

product_fits : (c : After-from-to) → FitsSigned w128 (whole c.args.slope *ℤ (clip 1 c.args.left c.args.right c.args.to -ℤ clip 1 c.args.left c.args.right c.args.from))
product_fits c =
    let e = rw (to_z-of_z c.ranges.to) at c.clip_to-2.ensures in
    let f = rw (to_z-of_z c.ranges.from) at c.clip_to.ensures in
    let moved : IsWithin (2 ^ 64) (clip 1 c.args.left c.args.right c.args.to -ℤ clip 1 c.args.left c.args.right c.args.from) = (omega (arith, ints), omega (arith, ints)) in
    within_fits128 (number_most * 2 ^ 64) _ (within_product number_most (2 ^ 64) _ _ c.requires moved) (omega arith)

pub overflow_mul-result : goal.overflow_mul-result
overflow_mul-result c = rw (slope_is c, to_is c, from_is c, moved_is c) (product_fits c)

pub returns : goal.returns
returns c = let fits = product_fits c in rw (slope_is c, to_is c, from_is c, moved_is c, to_z-of_z fits) refl
