use Rattle.std.proofs.Common.{◌≡◌, length, arith}
use Rattle.painted_search.proofs.Leaving.{passed-all}
use Rattle.painted_search.proofs.grow.Quest.leave.Goals as goal

pub returns-clause-left : goal.returns-clause-left
returns-clause-left g c not_met =
    let all : c.loop-step.step-index ≡ length c.steps-step-items.result.now = omega arith in
    passed-all c.args.self.now.net.now (g.P.Painter.paint c.args.self.now.painter.now) c.steps-step-items.result.now c.loop-step.work
    c.args.node.0 c.loop-step.step-index c.loop-step.invariant.passed all c.steps-step-items.ensures.items
