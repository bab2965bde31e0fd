use Rattle.std.proofs.Common.{◌≡◌, ℕ, ◌+◌, ◌*◌, ◌^◌, ◌≤◌, length, ap, rules, arith, ℤ, neg_ℤ, ◌+ℤ◌, ◌-ℤ◌, SFits, to_z-of_z}
use mir.Syntax.{w64, w128}
use Rattle.std.proofs.lemmas.Int.{ints}
use Rattle.theory.specs.ConjugateCost.{conjugate_cost}
use Rattle.theory.specs.Limits.{grounded_arcs_most}
use Rattle.theory.specs.Network.{Network, «at», curve}
use Rattle.theory.specs.Conserved.{tension}
use Rattle.theory.specs.PartialSum.{IsPartialSum}
use Rattle.theory.proofs.PartialSums.{partial-further}
use Rattle.cert_check.proofs.pricing.total_value.Goals as goal

pub loop-j-preserved : goal.loop-j-preserved
loop-j-preserved c =
    let net = c.args.g.now.network in
    let term : ℕ → ℤ = λ j. conjugate_cost 1 (curve net j) (tension net («at» c.args.u.now) j) in
    let tension_fits : SFits w64 c.tension_on.result = search rules in
    let dual_fits : SFits w128 c.dual_at-total.result = search rules in
    let is : c.dual_at-total.result ≡ term c.loop-j.j =
    rw (to_z-of_z tension_fits, c.curve.ensures, c.tension_on.ensures.value) at c.dual_at-total.ensures.value in
    let so_far : IsPartialSum term (2 * 10 ^ 28) c.loop-j.j (neg_ℤ c.loop-j.total) = rw c.loop-j.total-is at c.loop-j.invariant in
    let further = partial-further term (2 * 10 ^ 28) c.loop-j.j (neg_ℤ c.loop-j.total) c.dual_at-total.result so_far is c.dual_at-total.ensures.within in
    let low = further.within.0 in
    let high = further.within.1 in
    let count : length c.net.result.now.arcs ≡ length net.arcs = ap (λ (n : Network). length n.arcs) c.net.ensures in
    let few : length net.arcs ≤ grounded_arcs_most = c.args.g.now.good.few_arcs in
    let place : c.loop-j.j + 1 ≤ grounded_arcs_most = omega (arith, c.arcs-j-end.ensures, c.loop-j-test.true) in
    let fits : SFits w128 (c.loop-j.total -ℤ c.dual_at-total.result) = omega (arith, ints) in
    let turned : neg_ℤ (c.loop-j.total -ℤ c.dual_at-total.result) ≡ neg_ℤ c.loop-j.total +ℤ c.dual_at-total.result = omega (arith, ints) in
    rw (c.loop-j.total-is, to_z-of_z dual_fits, to_z-of_z fits, turned) further
