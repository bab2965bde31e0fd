use Rattle.std.proofs.Common.{◌≡◌, map}
use Rattle.net_incidence.specs.WithoutBases.{without_bases}
use Rattle.feasible_tension.specs.Back.{back}
use Rattle.feasible_tension.proofs.relaxing.Spans.far_back.Given as goal

abbrev pub invariant-loop : goal.invariant-loop
invariant-loop g l = l.node.0 ≡ back (without_bases l.self.net.now (map g.C.Monotone.items l.self.curves.now)) l.work.labels l.counter l.fn.from.0
