use Rattle.std.proofs.Common.{◌-◌, map, length}
use Rattle.net_incidence.specs.WithoutBases.{without_bases}
use Rattle.feasible_tension.proofs.CircuitIsNegative.{IsGoing, IsOpen}
use Rattle.feasible_tension.proofs.relaxing.Spans.walk_lap.Given as goal

abbrev pub invariant-loop-step : goal.invariant-loop-step
invariant-loop-step g l = record {
  going : IsGoing (without_bases l.self.net.now (map g.C.Monotone.items l.self.curves.now)) l.fn.work l.work l.root.0 l.node.0;
  is_open : IsOpen l.work l.root.0 l.node.0;
}

abbrev pub decreases-loop-step : goal.decreases-loop-step
decreases-loop-step g l = l.work.nodes - length l.work.walk
