use Rattle.std.proofs.Common.{◌≡◌, ◌+◌, ◌*◌, ◌^◌, refl, to_z, of_z, to_z-of_z, FitsSigned, arith}
use Rattle.std.specs.Prelude.{◌+ℤ◌, ◌-ℤ◌, ◌*ℤ◌}
use Rattle.std.specs.Int.{w128}
use Rattle.std.proofs.lemmas.Int.{ints}
use Rattle.theory.specs.Limits.{number_most, IsWithin, flow_most}
use Rattle.theory.proofs.Bounds.{within_sum, within_product, within_difference, within_fits128}
use Rattle.mono_curve.proofs.piece_price.along.Goals as goal
use Rattle.mono_curve.proofs.piece_price.along.Goals.{After-from-2}

slope_is : (c : After-from-2) → to_z w128 (of_z w128 c.from.result) ≡ c.args.slope
slope_is c = omega (arith, ints)

way_within : (c : After-from-2) → IsWithin (2 * flow_most + number_most) (c.args.to -ℤ c.args.from)
way_within c = within_difference (2 * flow_most) number_most c.args.to c.args.from c.requires.to c.requires.from

way_is : (c : After-from-2) → to_z w128 (of_z w128 c.from-2.result) ≡ c.args.to -ℤ c.args.from
way_is c =
    let low = (way_within c).0 in
    let high = (way_within c).1 in
    omega (arith, ints)

product_within : (c : After-from-2) → IsWithin (number_most * (2 * flow_most + number_most)) (c.args.slope *ℤ (c.args.to -ℤ c.args.from))
product_within c = within_product number_most (2 * flow_most + number_most) c.args.slope (c.args.to -ℤ c.args.from) c.requires.slope (way_within c)

product_fits : (c : After-from-2) → FitsSigned w128 (c.args.slope *ℤ (c.args.to -ℤ c.args.from))
product_fits c = within_fits128 (number_most * (2 * flow_most + number_most)) (c.args.slope *ℤ (c.args.to -ℤ c.args.from)) (product_within c) (omega arith)

sum_fits : (c : After-from-2) → FitsSigned w128 (c.args.cost +ℤ c.args.slope *ℤ (c.args.to -ℤ c.args.from))
sum_fits c =
    within_fits128 (10 ^ 28 + number_most * (2 * flow_most + number_most)) (c.args.cost +ℤ c.args.slope *ℤ (c.args.to -ℤ c.args.from))
    (within_sum (10 ^ 28) (number_most * (2 * flow_most + number_most)) c.args.cost (c.args.slope *ℤ (c.args.to -ℤ c.args.from)) c.requires.cost (product_within c))
    (omega arith)

pub overflow_mul-result : goal.overflow_mul-result
overflow_mul-result c = rw (slope_is c, way_is c) (product_fits c)

pub overflow_add-result : goal.overflow_add-result
overflow_add-result c = rw (slope_is c, way_is c, to_z-of_z (product_fits c), to_z-of_z c.ranges.cost) (sum_fits c)

pub returns : goal.returns
returns c = rw (slope_is c, way_is c, to_z-of_z (product_fits c), to_z-of_z c.ranges.cost, to_z-of_z (sum_fits c)) refl
