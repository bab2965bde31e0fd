use Rattle.std.proofs.Common.{◌≡◌, ◌*◌, ◌^◌, ◌≤◌, to_z, of_z, to_z-of_z, FitsSigned, arith}
use Rattle.std.specs.Prelude.{pos, ◌*ℤ◌}
use Rattle.std.specs.Int.{w128}
use Rattle.std.proofs.lemmas.Int.{ints}
use Rattle.std.proofs.Math.Nat.{pow-le-pow_right}
use Rattle.theory.specs.Limits.{IsWithin}
use Rattle.theory.proofs.Bounds.{within_product, within_fits128}
use Rattle.curve_views.proofs.level.scaled.Goals as goal
use Rattle.curve_views.proofs.level.scaled.Goals.{After-from}

power_is : (c : After-from) → to_z w128 (of_z w128 c.power.result) ≡ pos (2 ^ c.args.k)
power_is c = let e = c.power.ensures in omega (arith, ints)

flow_is : (c : After-from) → to_z w128 (of_z w128 c.from.result) ≡ c.args.x
flow_is c = omega (arith, ints)

product_fits : (c : After-from) → FitsSigned w128 (pos (2 ^ c.args.k) *ℤ c.args.x)
product_fits c =
    let few : c.args.k ≤ 40 = c.requires in
    let low : 2 ^ c.args.k ≤ 2 ^ 40 = pow-le-pow_right (omega arith) few in
    let power : IsWithin (2 ^ 40) (pos (2 ^ c.args.k)) = (omega (arith, ints), omega (arith, ints)) in
    let flow : IsWithin (2 ^ 63) c.args.x = (omega (arith, ints), omega (arith, ints)) in
    within_fits128 (2 ^ 40 * 2 ^ 63) (pos (2 ^ c.args.k) *ℤ c.args.x) (within_product (2 ^ 40) (2 ^ 63) (pos (2 ^ c.args.k)) c.args.x power flow) (omega arith)

pub overflow_mul-result : goal.overflow_mul-result
overflow_mul-result c = rw (power_is c, flow_is c) (product_fits c)

pub returns : goal.returns
returns c = rw (power_is c, flow_is c) (to_z-of_z (product_fits c))
