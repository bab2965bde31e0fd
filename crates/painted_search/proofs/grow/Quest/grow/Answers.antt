use Rattle.std.proofs.Common.{◌+◌, ◌≤◌, length, refl, arith}
use Rattle.net_incidence.specs.Graph.{bare}
use Rattle.painted_search.proofs.Growing.{goes_on-further, unreached}
use Rattle.painted_search.proofs.Leaving.{left-more}
use Rattle.painted_search.proofs.Spending.{spent-more, spent-most}
use Rattle.painted_search.proofs.grow.Quest.grow.Goals as goal

pub loop-done-preserved : goal.loop-done-preserved
loop-done-preserved g c =
    let net = c.args.self.now.net.now in
    let root = c.args.self.now.from.0 in
    let on = c.leave.ensures.goes_on in
    let within : c.loop-done.done ≤ length c.loop-done.work.walk = omega arith in
    record {
      searching = c.leave.ensures.searching;
      goes_on = goes_on-further c.args.work.now c.loop-done.work c.leave.new.work c.loop-done.invariant.goes_on on;
      unmet = unreached c.leave.new.work.reached c.args.self.now.to.0 c.args.self.now.to.0 c.leave.result refl c.leave.ensures.met c.if-leave.false;
      within = omega (arith, on.longer);
      left = left-more (bare net) (g.P.Painter.paint c.args.self.now.painter.now) root c.loop-done.work c.leave.new.work c.loop-done.done
          c.reached_node-node.result.0 on within c.reached_node-node.ensures c.loop-done.invariant.left (c.leave.ensures.left c.if-leave.false);
      no_fewer = omega (arith, c.leave.ensures.no_fewer, c.loop-done.invariant.no_fewer);
      count = spent-more net root c.loop-done.work c.leave.new.work c.loop-done.done (g.P.Painter.weight c.args.self.now.painter.now)
          c.args.steps.now c.loop-done.steps c.leave.new.steps c.reached_node-node.result.0 on within c.loop-done.invariant.count
          c.reached_node-node.ensures c.leave.ensures.count;
    }

pub returns-then-leave-clause-count : goal.returns-then-leave-clause-count
returns-then-leave-clause-count g c =
    let net = c.args.self.now.net.now in
    let root = c.args.self.now.from.0 in
    let weight = g.P.Painter.weight c.args.self.now.painter.now in
    let on = c.leave.ensures.goes_on in
    let within : c.loop-done.done ≤ length c.loop-done.work.walk = omega arith in
    let spent = spent-more net root c.loop-done.work c.leave.new.work c.loop-done.done weight
    c.args.steps.now c.loop-done.steps c.leave.new.steps c.reached_node-node.result.0 on within c.loop-done.invariant.count
    c.reached_node-node.ensures c.leave.ensures.count in
    spent-most net (g.P.Painter.paint c.args.self.now.painter.now c.leave.new.work.flows c.leave.new.work.potentials) root c.leave.new.work (c.loop-done.done + 1) weight c.args.steps.now c.leave.new.steps
    c.leave.ensures.searching.tree (omega (arith, on.longer)) spent

pub returns-clause-count : goal.returns-clause-count
returns-clause-count g c =
    spent-most c.args.self.now.net.now
    (g.P.Painter.paint c.args.self.now.painter.now c.loop-done.work.flows c.loop-done.work.potentials) c.args.self.now.from.0 c.loop-done.work
    c.loop-done.done (g.P.Painter.weight c.args.self.now.painter.now) c.args.steps.now c.loop-done.steps
    c.loop-done.invariant.searching.tree c.loop-done.invariant.within c.loop-done.invariant.count
