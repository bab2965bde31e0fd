use Rattle.std.proofs.Common.{◌≡◌, ◌+◌, ◌*◌, ◌≤◌, map, length, None}
use Rattle.std.specs.Prelude.{IfSome}
use Rattle.net_incidence.specs.WithoutBases.{without_bases}
use Rattle.feasible_tension.specs.Back.{IsDeep}
use Rattle.feasible_tension.specs.Kept.{IsKept}
use Rattle.feasible_tension.specs.Relaxing.{IsRelaxing}
use Rattle.feasible_tension.proofs.relaxing.Spans.rounds.Given as goal

abbrev pub invariant-loop-round : goal.invariant-loop-round
invariant-loop-round g l = record {
  relaxing : IsRelaxing (without_bases l.self.net.now (map g.C.Monotone.items l.self.curves.now)) l.round 0 None l.work;
  deep : IfSome l.changed (λ node. IsDeep (without_bases l.self.net.now (map g.C.Monotone.items l.self.curves.now)) l.work.labels l.round node.0);
  none : l.changed ≡ None → l.round ≡ 0;
  kept : IsKept l.initial.work l.work;
  no_fewer : l.initial.steps ≤ l.steps;
  count : l.steps ≤ l.initial.steps + l.round * length l.self.net.now.arcs;
}
