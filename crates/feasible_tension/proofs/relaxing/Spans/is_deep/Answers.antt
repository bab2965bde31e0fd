-- Each node on the way is one of the net, as labels are steps over its arcs.
use Rattle.std.proofs.Common.{◌<◌, None, map, sym, subst, arith}
use Rattle.net_incidence.specs.WithoutBases.{without_bases}
use Rattle.feasible_tension.proofs.Bounded.{bounded}
use Rattle.feasible_tension.proofs.LabelsComeRound.{back-there}
use Rattle.feasible_tension.proofs.relaxing.Spans.is_deep.Goals as goal

pub label-requires : goal.label-requires
label-requires g c =
    let net = without_bases c.args.self.now.net.now (map g.C.Monotone.items c.args.self.now.curves.now) in
    let good = bounded g.C.Monotone.items c.args.self.now.net.now c.args.self.now.curves.now c.requires.passable.one_curve_each
    g.met.C.Monotone.is_list g.met.C.Monotone.items_within in
    let there = back-there net c.requires.relaxed.0 0 c.args.from.0 None c.args.work.now good c.requires.relaxed.1 c.requires.there c.loop.counter in
    let there_now = subst (λ i. i < net.nodes) (sym c.loop.invariant.at_node) there in
    omega (arith, there_now, c.requires.fits.same_nodes)

pub begin-node-requires : goal.begin-node-requires
begin-node-requires g c = (c.requires.relaxed.1.labels c.loop.node.0 c.in-Some.step (sym c.in-Some.ensures)).there
