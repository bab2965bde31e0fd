use Rattle.std.proofs.Common.{◌+◌, ◌≤◌, map}
use Rattle.path_cut.specs.Slack.{slack_at, IsLeastOf}
use Rattle.path_cut.proofs.tight.Tight.least_slack.Given as goal

abbrev pub invariant-loop-j : goal.invariant-loop-j
invariant-loop-j g l = record {
  least : IsLeastOf l.j (slack_at l.self.net.now (map g.C.Monotone.items l.self.curves.now) l.work.potentials l.work.reached) l.least;
  no_fewer : l.initial.steps ≤ l.steps;
  count : l.steps ≤ l.initial.steps + l.j;
}
