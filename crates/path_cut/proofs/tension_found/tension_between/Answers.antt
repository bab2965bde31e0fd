use Rattle.std.proofs.Common.{◌≡◌, ℕ, zero, suc, ◌+◌, ◌*◌, ◌≤◌, length, ap, ◌∙◌, arith}
use Rattle.theory.specs.Limits.{level_most}
use Rattle.theory.specs.Network.{Network}
use Rattle.theory.specs.ReadingBound.{reading_bound}
use Rattle.net_incidence.specs.Graph.{network}
use Rattle.path_cut.proofs.Same.{potential-of, circuit-of}
use Rattle.path_cut.proofs.tension_found.tension_between.Goals as goal

pub reached-requires-clause-feasible : goal.reached-requires-clause-feasible
reached-requires-clause-feasible g c =
    let is = ap (network c.net-net.result.now) c.curves-curves.ensures ∙ c.net-net.ensures in
    potential-of c.net-net.result.now c.curves-curves.result.now c.args.g.now.network is c.feasible_tension.new.work.potentials (c.feasible_tension.ensures.potential c.in-Potential.is)

pub refused-requires-clause-negative : goal.refused-requires-clause-negative
refused-requires-clause-negative g c =
    let is = ap (network c.net-net.result.now) c.curves-curves.ensures ∙ c.net-net.ensures in
    circuit-of c.net-net.result.now c.curves-curves.result.now c.args.g.now.network is c.feasible_tension.new.work.walk (c.feasible_tension.ensures.circuit c.in-Circuit.is)

pub returns-clause-found : goal.returns-clause-found
returns-clause-found g c = c.refused.ensures.found c.args.from.0 c.args.to.0

pub returns-clause-within : goal.returns-clause-within
returns-clause-within g c = c.refused.ensures.within _ _

-- a feasible potential and a greatest tension together take less than one unit of the bound
room_left : (n m : ℕ) → n * m + 3 * (n + 1) * m ≤ reading_bound n m level_most
room_left n zero = omega arith
room_left n (suc m) = omega arith

pub returns-in-Potential-clause-count : goal.returns-in-Potential-clause-count
returns-in-Potential-clause-count g c =
    let net = c.args.g.now.network in
    let is = ap (network c.net-net.result.now) c.curves-curves.ensures ∙ c.net-net.ensures in
    let nodes : c.net-net.result.now.nodes ≡ net.nodes = ap (λ (n : Network). n.nodes) is in
    let arcs : length c.net-net.result.now.arcs ≡ length net.arcs = ap (λ (n : Network). length n.arcs) is in
    let first = rw (nodes, arcs) at c.feasible_tension.ensures.count in
    let left = room_left net.nodes (length net.arcs) in
    omega (arith, first, left, c.reached.ensures.count)

pub returns-clause-count : goal.returns-clause-count
returns-clause-count g c =
    let net = c.args.g.now.network in
    let is = ap (network c.net-net.result.now) c.curves-curves.ensures ∙ c.net-net.ensures in
    let nodes : c.net-net.result.now.nodes ≡ net.nodes = ap (λ (n : Network). n.nodes) is in
    let arcs : length c.net-net.result.now.arcs ≡ length net.arcs = ap (λ (n : Network). length n.arcs) is in
    let first = rw (nodes, arcs) at c.feasible_tension.ensures.count in
    let left = room_left net.nodes (length net.arcs) in
    omega (arith, first, left)
