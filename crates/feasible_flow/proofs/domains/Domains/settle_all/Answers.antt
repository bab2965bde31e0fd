-- Each arc that is settled stays in its domain, since no later move takes any flow further from its own. What is spent is counted
-- against the violations: a round lowers their sum.
use Rattle.std.proofs.Common.{length, arith}
use Rattle.feasible_flow.specs.Violations.{total_violation}
use Rattle.feasible_flow.specs.UnderWay.{readings_left}
use Rattle.feasible_flow.specs.ByLevels.{levels_of}
use Rattle.feasible_flow.proofs.Spent.{cut-spent}
use Rattle.feasible_flow.proofs.domains.Domains.settle_all.Goals as goal

pub returns-then-not-settle-clause-cut_count : goal.returns-then-not-settle-clause-cut_count
returns-then-not-settle-clause-cut_count g c found =
    let net = c.args.net.now in
    let lists = levels_of g.C.Monotone.items c.args.self.now.level c.args.self.now.curves.now in
    let m = length net.arcs in
    cut-spent net.nodes m c.loop-j.j (total_violation m lists c.args.work.now.flows) (readings_left net lists c.settle.new.work.flows) c.args.steps.now
    c.settle.new.steps (omega (arith, c.loop-j-test.true, c.arcs-j-end.ensures))
    (omega (arith, c.loop-j.invariant.count, c.settle.ensures.cut_count c.if-not-settle.true))
