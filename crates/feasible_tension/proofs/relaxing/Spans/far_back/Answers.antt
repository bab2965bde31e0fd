-- The node at hand is as many labels back as turns are over; as many back as there are nodes the way is on a circuit.
use Rattle.std.proofs.Common.{◌≡◌, ◌<◌, None, map, refl, sym, ap, ◌∙◌, subst, add-one, arith}
use Rattle.net_incidence.specs.WithoutBases.{without_bases}
use Rattle.feasible_tension.specs.Back.{parent, back, IsOnCircuit}
use Rattle.feasible_tension.proofs.Bounded.{bounded}
use Rattle.feasible_tension.proofs.LabelsComeRound.{back-there, far-on_circuit}
use Rattle.feasible_tension.proofs.relaxing.Spans.far_back.Goals as goal

pub loop-init : goal.loop-init
loop-init g c = refl

pub parent-node-requires-clause-there : goal.parent-node-requires-clause-there
parent-node-requires-clause-there g c =
    let net = without_bases c.args.self.now.net.now (map g.C.Monotone.items c.args.self.now.curves.now) in
    let good = bounded g.C.Monotone.items c.args.self.now.net.now c.args.self.now.curves.now c.requires.passable.one_curve_each
    g.met.C.Monotone.is_list g.met.C.Monotone.items_within in
    let there = back-there net c.requires.relaxed.0 0 c.args.from.0 None c.args.work.now good c.requires.relaxed.1 c.requires.deep.there c.loop.counter in
    subst (λ i. i < net.nodes) (sym c.loop.invariant) there

pub loop-preserved : goal.loop-preserved
loop-preserved g c =
    let net = without_bases c.args.self.now.net.now (map g.C.Monotone.items c.args.self.now.curves.now) in
    c.parent-node.ensures ∙ ap (parent net c.args.work.now.labels) c.loop.invariant
    ∙ ap (λ k. back net c.args.work.now.labels k c.args.from.0) (sym (add-one c.loop.counter))

pub returns : goal.returns
returns g c =
    let net = without_bases c.args.self.now.net.now (map g.C.Monotone.items c.args.self.now.curves.now) in
    let good = bounded g.C.Monotone.items c.args.self.now.net.now c.args.self.now.curves.now c.requires.passable.one_curve_each
    g.met.C.Monotone.is_list g.met.C.Monotone.items_within in
    let found = far-on_circuit net c.requires.relaxed.0 0 c.args.from.0 None c.args.work.now good c.requires.relaxed.1 c.requires.deep in
    let all : c.loop.counter ≡ net.nodes = omega arith in
    let is = c.loop.invariant ∙ ap (λ k. back net c.args.work.now.labels k c.args.from.0) all in
    subst (IsOnCircuit net c.args.work.now.labels) (sym is) found
