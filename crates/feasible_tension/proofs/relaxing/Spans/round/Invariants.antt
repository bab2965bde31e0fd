use Rattle.std.proofs.Common.{◌+◌, ◌≤◌, map}
use Rattle.net_incidence.specs.WithoutBases.{without_bases}
use Rattle.feasible_tension.specs.Kept.{IsKept}
use Rattle.feasible_tension.specs.Relaxing.{IsRelaxing}
use Rattle.feasible_tension.proofs.relaxing.Spans.round.Given as goal

abbrev pub invariant-loop-k : goal.invariant-loop-k
invariant-loop-k g l = record {
  relaxing : IsRelaxing (without_bases l.self.net.now (map g.C.Monotone.items l.self.curves.now)) l.round l.k l.changed l.work;
  kept : IsKept l.initial.work l.work;
  no_fewer : l.initial.steps ≤ l.steps;
  count : l.steps ≤ l.initial.steps + l.k;
}
