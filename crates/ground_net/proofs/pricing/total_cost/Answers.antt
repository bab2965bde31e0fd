use Rattle.std.proofs.Common.{◌≡◌, ℕ, ◌+◌, ◌≤◌, length, ap, rules, arith, ℤ, ◌+ℤ◌, SFits, to_z-of_z}
use mir.Syntax.{w64, w128}
use Rattle.std.proofs.lemmas.Int.{ints}
use Rattle.theory.specs.Cost.{cost}
use Rattle.theory.specs.Limits.{grounded_arcs_most}
use Rattle.theory.specs.Network.{Network, «at», curve}
use Rattle.theory.specs.PartialSum.{IsPartialSum}
use Rattle.theory.proofs.PartialSums.{partial-further}
use Rattle.ground_net.specs.Costs.{cost_most}
use Rattle.ground_net.proofs.Costs.{cost_near}
use Rattle.ground_net.proofs.pricing.total_cost.Goals as goal

pub loop-j-preserved : goal.loop-j-preserved
loop-j-preserved c =
    let net = c.args.g.now.network in
    let x = c.args.flows.now in
    let term : ℕ → ℤ = λ j. cost 1 (curve net j) («at» x j) in
    let flow_fits : SFits w64 («at» x c.loop-j.j) = search rules in
    let cost_fits : SFits w128 c.cost_at-total.result = search rules in
    let is : c.cost_at-total.result ≡ term c.loop-j.j =
    rw (to_z-of_z flow_fits, c.curve.ensures) at c.cost_at-total.ensures.value in
    let count : length c.net.result.now.arcs ≡ length net.arcs = ap (λ (n : Network). length n.arcs) c.net.ensures in
    let few : length net.arcs ≤ grounded_arcs_most = c.args.g.now.good.few_arcs in
    let place : c.loop-j.j + 1 ≤ grounded_arcs_most = omega (arith, c.arcs-j-end.ensures, c.loop-j-test.true) in
    let near = cost_near c.curve.result.now (curve net c.loop-j.j) («at» x c.loop-j.j) c.curve.ensures
    (c.requires.numbers.within c.loop-j.j (omega (arith, count, c.arcs-j-end.ensures, c.loop-j-test.true))) in
    let so_far : IsPartialSum term cost_most c.loop-j.j c.loop-j.total = rw c.loop-j.total-is at c.loop-j.invariant in
    let further = partial-further term cost_most c.loop-j.j c.loop-j.total c.cost_at-total.result so_far is (rw is near) in
    let low = further.within.0 in
    let high = further.within.1 in
    let fits : SFits w128 (c.loop-j.total +ℤ c.cost_at-total.result) = omega (arith, ints) in
    rw (c.loop-j.total-is, to_z-of_z cost_fits, to_z-of_z fits) further
