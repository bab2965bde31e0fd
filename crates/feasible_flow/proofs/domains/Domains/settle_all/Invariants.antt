use Rattle.std.proofs.Common.{◌≡◌, ℕ, ◌+◌, ◌*◌, ◌<◌, ◌≤◌, length}
use Rattle.painted_search.specs.Fits.{Fits}
use Rattle.feasible_flow.specs.Violations.{violation_at}
use Rattle.feasible_flow.specs.UnderWay.{IsUnderWay, look_cost, readings_left}
use Rattle.feasible_flow.specs.ByLevels.{levels_of, flow_limit}
use Rattle.feasible_flow.proofs.domains.Domains.settle_all.Given as goal

abbrev pub invariant-loop-j : goal.invariant-loop-j
invariant-loop-j g l = record {
  fits : Fits l.net l.work;
  under_way : IsUnderWay l.net (levels_of g.C.Monotone.items l.self.level l.self.curves.now) (flow_limit (length l.net.arcs) l.self.level) l.work.flows;
  settled : (k : ℕ) → k < l.j → violation_at (levels_of g.C.Monotone.items l.self.level l.self.curves.now) l.work.flows k ≡ 0;
  potentials : l.work.potentials ≡ l.initial.work.potentials;
  no_fewer : l.initial.steps ≤ l.steps;
  count : l.steps + readings_left l.net (levels_of g.C.Monotone.items l.self.level l.self.curves.now) l.work.flows
      ≤ l.initial.steps + readings_left l.net (levels_of g.C.Monotone.items l.self.level l.self.curves.now) l.initial.work.flows + l.j * look_cost;
}
