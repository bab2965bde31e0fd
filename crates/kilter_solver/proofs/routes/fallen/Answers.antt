use Rattle.std.proofs.Common.{◌≡◌, ◌+ℤ◌, ◌-ℤ◌, ap, arith}
use Rattle.std.proofs.lemmas.Int.{ints}
use Rattle.kilter_solver.specs.Routing.{fallen}
use Rattle.kilter_solver.proofs.routes.fallen.Goals as goal

pub returns-then-settled : goal.returns-then-settled
returns-then-settled c =
    let is : fallen c.args.settled c.args.potential c.args.key c.args.bound ≡ (c.args.potential +ℤ c.args.key) -ℤ c.args.bound =
    ap (λ d. fallen d c.args.potential c.args.key c.args.bound) c.if-settled.true in
    let u_low = c.requires.potential.0 in
    let u_high = c.requires.potential.1 in
    let k_low = (c.requires.key c.if-settled.true).0 in
    let k_high = (c.requires.key c.if-settled.true).1 in
    let b_low = c.requires.bound.0 in
    let b_high = c.requires.bound.1 in
    omega (arith, ints)
