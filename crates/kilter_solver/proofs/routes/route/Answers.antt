use Rattle.std.proofs.Common.{◌≡◌, ◌+◌, ◌*◌, length, refl, ap, arith}
use Rattle.std.proofs.Math.Nat.{mul-le-mul_left}
use Rattle.kilter_solver.specs.Ranges.{far_most}
use Rattle.kilter_solver.specs.Excess.{excess, surpluses}
use Rattle.kilter_solver.proofs.Cutting.{sated-conserved}
use Rattle.kilter_solver.proofs.Serving.{routes-same, routes-more, ready-on_way, surplus-within}
use Rattle.kilter_solver.proofs.routes.route.Goals as goal

pub send-requires-clause-ready : goal.send-requires-clause-ready
send-requires-clause-ready g c =
    let w = c.loop-i.work in
    let few = w.sized.few_nodes in
    ready-on_way c.args.net.now (g.B.Bundle.lists c.args.bundle.now) c.args.work.now w c.requires.safe c.loop-i.invariant.routes
    c.loop-i.invariant.balancing (omega (arith, c.loop-i.invariant.balancing.same_nodes))

pub send-requires-clause-few : goal.send-requires-clause-few
send-requires-clause-few g c =
    let w = c.loop-i.work in
    let fewer = c.loop-i.invariant.routes.fewer in
    let surplus = c.requires.safe.surplus in
    surplus-within c.args.net.now.nodes c.loop-i.i (excess w) far_most (omega arith) (omega arith)

pub returns-in-Cut-clause-count : goal.returns-in-Cut-clause-count
returns-in-Cut-clause-count g c =
    let each = length c.args.net.now.arcs * g.B.Bundle.weight c.args.bundle.now in
    omega (arith, c.loop-i.invariant.count, c.in-Cut.ensures.search_count refl)

pub returns-in-Cut-clause-routes : goal.returns-in-Cut-clause-routes
returns-in-Cut-clause-routes g c =
    routes-same c.args.net.now c.args.work.now c.loop-i.work c.send.new.work c.loop-i.invariant.routes (c.in-Cut.ensures.same refl)
    c.loop-i.invariant.balancing.same_nodes

pub loop-i-preserved : goal.loop-i-preserved
loop-i-preserved g c =
    let net = c.args.net.now in
    let before = c.loop-i.invariant in
    let sent = c.in-Done.ensures.sent refl in
    let each = length net.arcs * g.B.Bundle.weight c.args.bundle.now in
    let some = mul-le-mul_left (3 * each) sent.some in
    let fewer : 3 * each * (surpluses net.nodes (excess c.send.new.work) + sent.amount) ≡ 3 * each * surpluses net.nodes (excess c.loop-i.work) =
    ap (λ k. 3 * each * k) sent.fewer in
    record {
      balancing = c.send.ensures.balancing;
      routes = routes-more net c.args.work.now c.loop-i.work c.send.new.work before.routes sent;
      sated = λ k l. sent.sated k (omega (arith, before.within)) (before.sated k l);
      within = before.within;
      no_fewer = omega (arith, before.no_fewer, c.send.ensures.no_fewer);
      count = omega (arith, before.count, c.send.ensures.count);
    }

pub returns-clause-conserved : goal.returns-clause-conserved
returns-clause-conserved g c =
    let w = c.loop-i.work in
    let s = c.args.bundle.now in
    let balancing = c.loop-i.invariant.balancing in
    λ _. sated-conserved c.args.net.now (g.B.Bundle.lists s) w.flows (excess w) (g.met.B.Bundle.are_lists s) balancing.one_list_each
    balancing.excesses (λ i l. c.loop-i.invariant.sated i (omega arith))
