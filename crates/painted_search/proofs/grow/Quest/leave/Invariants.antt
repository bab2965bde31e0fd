use Rattle.std.proofs.Common.{◌≡◌, ◌+◌, ◌*◌, ◌≤◌, false}
use Rattle.theory.specs.Cut.{holds}
use Rattle.net_incidence.specs.Graph.{bare}
use Rattle.painted_search.specs.Tree.{IsSearching, GoesOn}
use Rattle.painted_search.proofs.Leaving.{ArePassed}
use Rattle.painted_search.proofs.grow.Quest.leave.Given as goal

abbrev pub invariant-loop-step : goal.invariant-loop-step
invariant-loop-step g l = record {
  searching : IsSearching l.self.net.now (g.P.Painter.ready l.self.painter.now) (g.P.Painter.paint l.self.painter.now) l.self.from.0 l.work;
  goes_on : GoesOn l.initial.work l.work;
  unmet : holds l.work.reached l.self.to.0 ≡ false;
  passed : ArePassed (bare l.self.net.now) (g.P.Painter.paint l.self.painter.now) l.step-items l.work l.step-index;
  no_fewer : l.initial.steps ≤ l.steps;
  count : l.steps ≤ l.initial.steps + l.step-index * g.P.Painter.weight l.self.painter.now;
}
