use Rattle.std.proofs.Common.{◌≡◌, IsTrue, length, rules, arith}
use Rattle.kilter_solver.proofs.Beginning.{zero-feasible, zero-near}
use Rattle.kilter_solver.proofs.tests.balanced.Goals as goal

pub balance-found-requires-clause-potential : goal.balance-found-requires-clause-potential
balance-found-requires-clause-potential g c =
    let yes : IsTrue c.is_level-level.result = search rules in
    let same : length c.args.curves.now ≡ length c.args.net.now.arcs = search rules in
    zero-feasible c.args.net.now _ c.in_ok-work.work c.nodes-nodes.result c.arcs-arcs.result c.in_ok-work.ensures c.nodes-nodes.ensures
    (λ j l. c.is_level-level.ensures yes j (omega arith))

pub balance-found-requires-clause-near : goal.balance-found-requires-clause-near
balance-found-requires-clause-near g c = zero-near c.args.net.now c.in_ok-work.work c.nodes-nodes.result c.arcs-arcs.result c.in_ok-work.ensures
