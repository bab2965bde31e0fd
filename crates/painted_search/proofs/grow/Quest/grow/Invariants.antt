use Rattle.std.proofs.Common.{◌≡◌, ◌+◌, ◌-◌, ◌*◌, ◌≤◌, false, length}
use Rattle.theory.specs.Cut.{holds}
use Rattle.net_incidence.specs.Graph.{bare}
use Rattle.painted_search.specs.Tree.{IsSearching, GoesOn, AreLeft}
use Rattle.painted_search.proofs.Spending.{degree_sum}
use Rattle.painted_search.proofs.grow.Quest.grow.Given as goal

abbrev pub invariant-loop-done : goal.invariant-loop-done
invariant-loop-done g l = record {
  searching : IsSearching l.self.net.now (g.P.Painter.ready l.self.painter.now) (g.P.Painter.paint l.self.painter.now) l.self.from.0 l.work;
  goes_on : GoesOn l.initial.work l.work;
  unmet : holds l.work.reached l.self.to.0 ≡ false;
  within : l.done ≤ length l.work.walk + 1;
  left : AreLeft (bare l.self.net.now) (g.P.Painter.paint l.self.painter.now l.work.flows l.work.potentials) l.self.from.0 l.work l.done;
  no_fewer : l.initial.steps ≤ l.steps;
  count : l.steps ≤ l.initial.steps + degree_sum l.self.net.now l.self.from.0 l.work.walk l.done * g.P.Painter.weight l.self.painter.now;
}

abbrev pub decreases-loop-done : goal.decreases-loop-done
decreases-loop-done g l = l.self.net.now.nodes + 1 - l.done
