use Rattle.std.proofs.Common.{◌-◌, length}
use Rattle.net_incidence.specs.Graph.{bare}
use Rattle.painted_search.proofs.Tracing.{IsTracing}
use Rattle.painted_search.proofs.grow.Quest.trace.Given as goal

abbrev pub invariant-loop-step : goal.invariant-loop-step
invariant-loop-step g l = IsTracing (bare l.self.net.now) l.self.from.0 l.self.to.0 l.fn.work l.node.0 l.work

abbrev pub decreases-loop-step : goal.decreases-loop-step
decreases-loop-step g l = l.work.nodes - length l.work.walk
