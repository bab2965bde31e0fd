-- The way back along the labels is kept as one fact while it goes on: where it is, that it hasn't come round, and what the bounds
-- on it add up to. It has room and goes on as long as it is open, since it is on a circuit; once it comes round it is a lap. The
-- nodes that it has room for fall, so it ends.
use Rattle.std.proofs.Common.{◌≡◌, ◌≢◌, map, length, sym, ap, rules, arith}
use Rattle.painted_search.specs.Room.{Room}
use Rattle.net_incidence.specs.WithoutBases.{without_bases}
use Rattle.feasible_tension.proofs.Bounded.{bounded}
use Rattle.painted_search.proofs.Rooms.{with_step-less, with_step-some}
use Rattle.feasible_tension.proofs.CircuitIsNegative.{going-start, going-room, going-labelled, going-step, going-more, going-lap}
use Rattle.feasible_tension.proofs.relaxing.Spans.walk_lap.Goals as goal

pub loop-step-init : goal.loop-step-init
loop-step-init g c = record {
  going = going-start (without_bases c.args.self.now.net.now (map g.C.Monotone.items c.args.self.now.curves.now)) c.args.work.now _ c.args.root.0
      c.requires.relaxed c.requires.on_circuit c.clear_walk.ensures;
  is_open = λ some. absurd (omega (arith, ap length (ap (λ (w : Room). w.walk) c.clear_walk.ensures)));
}

pub push_step-requires : goal.push_step-requires
push_step-requires g c =
    let net = without_bases c.args.self.now.net.now (map g.C.Monotone.items c.args.self.now.curves.now) in
    let good = bounded g.C.Monotone.items c.args.self.now.net.now c.args.self.now.curves.now c.requires.passable.one_curve_each
    g.met.C.Monotone.is_list g.met.C.Monotone.items_within in
    going-room net c.args.work.now c.loop-step.work c.args.root.0 c.loop-step.node.0 good c.loop-step.invariant.going c.loop-step.invariant.is_open
    c.requires.fits.same_nodes

pub begin-node-requires : goal.begin-node-requires
begin-node-requires g c =
    (going-step (without_bases c.args.self.now.net.now (map g.C.Monotone.items c.args.self.now.curves.now)) c.args.work.now c.loop-step.work c.args.root.0
    c.loop-step.node.0 c.in-Some.step c.loop-step.invariant.going c.in-Some.ensures).there

pub returns-then-eq-clause-lap : goal.returns-then-eq-clause-lap
returns-then-eq-clause-lap g c =
    let net = without_bases c.args.self.now.net.now (map g.C.Monotone.items c.args.self.now.curves.now) in
    let good = bounded g.C.Monotone.items c.args.self.now.net.now c.args.self.now.curves.now c.requires.passable.one_curve_each
    g.met.C.Monotone.is_list g.met.C.Monotone.items_within in
    let room = going-room net c.args.work.now c.loop-step.work c.args.root.0 c.loop-step.node.0 good c.loop-step.invariant.going
    c.loop-step.invariant.is_open c.requires.fits.same_nodes in
    let more = going-more net c.args.work.now c.loop-step.work c.push_step.new.self c.args.root.0 c.loop-step.node.0 c.begin-node.result.0
    c.in-Some.step good c.loop-step.invariant.going c.loop-step.invariant.is_open c.requires.fits.same_nodes c.in-Some.ensures
    c.push_step.ensures c.begin-node.ensures in
    let same : c.begin-node.result.0 ≡ c.args.root.0 = search rules in
    going-lap net c.args.work.now c.push_step.new.self c.args.root.0 c.begin-node.result.0 more
    (with_step-some c.loop-step.work c.push_step.new.self c.in-Some.step room c.push_step.ensures) same

pub returns-then-eq-clause-kept : goal.returns-then-eq-clause-kept
returns-then-eq-clause-kept g c =
    let net = without_bases c.args.self.now.net.now (map g.C.Monotone.items c.args.self.now.curves.now) in
    let good = bounded g.C.Monotone.items c.args.self.now.net.now c.args.self.now.curves.now c.requires.passable.one_curve_each
    g.met.C.Monotone.is_list g.met.C.Monotone.items_within in
    let more = going-more net c.args.work.now c.loop-step.work c.push_step.new.self c.args.root.0 c.loop-step.node.0 c.begin-node.result.0
    c.in-Some.step good c.loop-step.invariant.going c.loop-step.invariant.is_open c.requires.fits.same_nodes c.in-Some.ensures
    c.push_step.ensures c.begin-node.ensures in
    more.kept

pub loop-step-smaller : goal.loop-step-smaller
loop-step-smaller g c =
    let net = without_bases c.args.self.now.net.now (map g.C.Monotone.items c.args.self.now.curves.now) in
    let good = bounded g.C.Monotone.items c.args.self.now.net.now c.args.self.now.curves.now c.requires.passable.one_curve_each
    g.met.C.Monotone.is_list g.met.C.Monotone.items_within in
    let room = going-room net c.args.work.now c.loop-step.work c.args.root.0 c.loop-step.node.0 good c.loop-step.invariant.going
    c.loop-step.invariant.is_open c.requires.fits.same_nodes in
    with_step-less c.loop-step.work c.push_step.new.self c.in-Some.step room c.push_step.ensures

pub loop-step-preserved : goal.loop-step-preserved
loop-step-preserved g c =
    let net = without_bases c.args.self.now.net.now (map g.C.Monotone.items c.args.self.now.curves.now) in
    let good = bounded g.C.Monotone.items c.args.self.now.net.now c.args.self.now.curves.now c.requires.passable.one_curve_each
    g.met.C.Monotone.is_list g.met.C.Monotone.items_within in
    let more = going-more net c.args.work.now c.loop-step.work c.push_step.new.self c.args.root.0 c.loop-step.node.0 c.begin-node.result.0
    c.in-Some.step good c.loop-step.invariant.going c.loop-step.invariant.is_open c.requires.fits.same_nodes c.in-Some.ensures
    c.push_step.ensures c.begin-node.ensures in
    let apart : c.begin-node.result.0 ≢ c.args.root.0 = search rules in
    record { going = more; is_open = λ some. apart }

pub returns : goal.returns
returns g c = absurd (going-labelled (without_bases c.args.self.now.net.now (map g.C.Monotone.items c.args.self.now.curves.now)) c.args.work.now
    c.loop-step.work c.args.root.0 c.loop-step.node.0 c.loop-step.invariant.going c.loop-step.invariant.is_open (sym c.in_default.ensures))
