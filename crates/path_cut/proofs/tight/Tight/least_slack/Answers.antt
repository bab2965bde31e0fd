use Rattle.std.proofs.Common.{map, arith}
use Rattle.path_cut.specs.Slack.{slack_at}
use Rattle.path_cut.proofs.Slacks.{least-more}
use Rattle.path_cut.proofs.tight.Tight.least_slack.Goals as goal

pub loop-j-preserved : goal.loop-j-preserved
loop-j-preserved g c = record {
  least =
      rw c.lesser-least.ensures
      (least-more c.loop-j.j
      (slack_at c.args.self.now.net.now (map g.C.Monotone.items c.args.self.now.curves.now) c.args.work.now.potentials c.args.work.now.reached)
      c.loop-j.least c.slack-slack.result c.loop-j.invariant.least c.slack-slack.ensures.slack);
  no_fewer = omega (arith, c.loop-j.invariant.no_fewer, c.slack-slack.ensures.no_fewer);
  count = omega (arith, c.loop-j.invariant.count, c.slack-slack.ensures.count);
}
