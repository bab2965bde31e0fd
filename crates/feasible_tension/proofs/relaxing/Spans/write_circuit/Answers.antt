use Rattle.std.proofs.Common.{map, sym, ap, subst}
use Rattle.theory.specs.Circuit.{IsNegativeCircuit, WalkIsThere}
use Rattle.painted_search.specs.Room.{Room}
use Rattle.net_incidence.specs.WithoutBases.{without_bases}
use Rattle.feasible_tension.proofs.Bounded.{bounded}
use Rattle.feasible_tension.proofs.CircuitIsSimple.{lap-circuit, lap-there}
use Rattle.feasible_tension.proofs.relaxing.Spans.write_circuit.Goals as goal

pub returns-clause-circuit : goal.returns-clause-circuit
returns-clause-circuit g c =
    let net = without_bases c.args.self.now.net.now (map g.C.Monotone.items c.args.self.now.curves.now) in
    let good = bounded g.C.Monotone.items c.args.self.now.net.now c.args.self.now.curves.now c.requires.passable.one_curve_each
    g.met.C.Monotone.is_list g.met.C.Monotone.items_within in
    let circuit = lap-circuit net c.requires.relaxed.0 c.far_back-root.result.0 c.args.work.now c.walk_lap.new.work.walk good c.requires.relaxed.1
    c.walk_lap.ensures.lap in
    subst (IsNegativeCircuit net) (sym (ap (λ (w : Room). w.walk) c.turn_walk.ensures)) circuit

pub returns-clause-there : goal.returns-clause-there
returns-clause-there g c =
    let net = without_bases c.args.self.now.net.now (map g.C.Monotone.items c.args.self.now.curves.now) in
    let there = lap-there net c.requires.relaxed.0 c.far_back-root.result.0 c.args.work.now c.walk_lap.new.work.walk c.requires.relaxed.1
    c.walk_lap.ensures.lap in
    subst (WalkIsThere net) (sym (ap (λ (w : Room). w.walk) c.turn_walk.ensures)) there
