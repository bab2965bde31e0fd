use Rattle.std.proofs.Common.{◌≡◌, ◌+◌, ◌*◌, ◌^◌, refl, to_z, of_z, to_z-of_z, FitsSigned, arith}
use Rattle.std.specs.Prelude.{◌-ℤ◌, ◌*ℤ◌}
use Rattle.std.specs.Int.{w128}
use Rattle.std.proofs.lemmas.Int.{ints}
use Rattle.theory.specs.Limits.{number_most, IsWithin, flow_most}
use Rattle.theory.proofs.Bounds.{within_product, within_difference, within_more, within_fits128}
use Rattle.curve_views.proofs.dual.gain.Goals as goal
use Rattle.curve_views.proofs.dual.gain.Goals.{After-from-2}

flow_is : (c : After-from-2) → to_z w128 (of_z w128 c.from.result) ≡ c.args.flow
flow_is c = omega (arith, ints)

tension_is : (c : After-from-2) → to_z w128 (of_z w128 c.from-2.result) ≡ c.args.tension
tension_is c = omega (arith, ints)

product_within : (c : After-from-2) → IsWithin (number_most * (2 * flow_most)) (c.args.flow *ℤ c.args.tension)
product_within c = within_product number_most (2 * flow_most) c.args.flow c.args.tension c.requires.flow c.requires.tension

product_fits : (c : After-from-2) → FitsSigned w128 (c.args.flow *ℤ c.args.tension)
product_fits c = within_fits128 (number_most * (2 * flow_most)) (c.args.flow *ℤ c.args.tension) (product_within c) (omega arith)

gain_within : (c : After-from-2) → IsWithin (2 * 10 ^ 28) (c.args.flow *ℤ c.args.tension -ℤ c.args.cost)
gain_within c =
    within_more (number_most * (2 * flow_most) + 10 ^ 28) (2 * 10 ^ 28) (c.args.flow *ℤ c.args.tension -ℤ c.args.cost) (omega arith)
    (within_difference (number_most * (2 * flow_most)) (10 ^ 28) (c.args.flow *ℤ c.args.tension) c.args.cost (product_within c) c.requires.cost)

gain_fits : (c : After-from-2) → FitsSigned w128 (c.args.flow *ℤ c.args.tension -ℤ c.args.cost)
gain_fits c = within_fits128 (2 * 10 ^ 28) (c.args.flow *ℤ c.args.tension -ℤ c.args.cost) (gain_within c) (omega arith)

pub overflow_sub-result : goal.overflow_sub-result
overflow_sub-result c = rw (flow_is c, tension_is c, to_z-of_z (product_fits c), to_z-of_z c.ranges.cost) (gain_fits c)

pub returns-clause-value : goal.returns-clause-value
returns-clause-value c = rw (flow_is c, tension_is c, to_z-of_z (product_fits c), to_z-of_z c.ranges.cost, to_z-of_z (gain_fits c)) refl

pub returns-clause-within : goal.returns-clause-within
returns-clause-within c = rw (flow_is c, tension_is c, to_z-of_z (product_fits c), to_z-of_z c.ranges.cost, to_z-of_z (gain_fits c)) (gain_within c)
