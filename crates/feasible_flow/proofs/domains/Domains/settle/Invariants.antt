use Rattle.std.proofs.Common.{◌≡◌, ◌+◌, ◌≤◌, length}
use Rattle.painted_search.specs.Fits.{Fits}
use Rattle.feasible_flow.specs.Violations.{total_violation}
use Rattle.feasible_flow.specs.UnderWay.{IsUnderWay, AreNoFurther, readings_left}
use Rattle.feasible_flow.specs.ByLevels.{levels_of, flow_limit}
use Rattle.feasible_flow.proofs.domains.Domains.settle.Given as goal

abbrev pub invariant-loop-need : goal.invariant-loop-need
invariant-loop-need g l = record {
  fits : Fits l.net l.work;
  under_way : IsUnderWay l.net (levels_of g.C.Monotone.items l.self.level l.self.curves.now) (flow_limit (length l.net.arcs) l.self.level) l.work.flows;
  no_further : AreNoFurther (levels_of g.C.Monotone.items l.self.level l.self.curves.now) l.initial.work.flows l.work.flows;
  potentials : l.work.potentials ≡ l.initial.work.potentials;
  no_fewer : l.initial.steps ≤ l.steps;
  count : l.steps + readings_left l.net (levels_of g.C.Monotone.items l.self.level l.self.curves.now) l.work.flows
      ≤ l.initial.steps + readings_left l.net (levels_of g.C.Monotone.items l.self.level l.self.curves.now) l.initial.work.flows;
}

abbrev pub decreases-loop-need : goal.decreases-loop-need
decreases-loop-need g l = total_violation (length l.net.arcs) (levels_of g.C.Monotone.items l.self.level l.self.curves.now) l.work.flows
