use Rattle.std.proofs.Common.{◌<◌, length, map, ap, ◌∙◌, arith}
use Rattle.std.proofs.lemmas.Int.{ints}
use Rattle.theory.specs.Network.{«at»}
use Rattle.net_incidence.specs.WithoutBases.{without_bases}
use Rattle.net_incidence.proofs.Graphs.{begin-in_graph}
use Rattle.feasible_tension.proofs.Examining.{lowered-made}
use Rattle.feasible_tension.proofs.relaxing.Spans.lower.Goals as goal

pub returns-clause-lowered : goal.returns-clause-lowered
returns-clause-lowered g c =
    let begins = begin-in_graph c.args.self.now.net.now c.args.step c.requires.there in
    let begin_is = c.begin.ensures in
    let there : c.begin.result.0 < length c.args.work.now.potentials =
    omega (arith, c.requires.fits.same_nodes, c.args.work.now.sized.one_potential_each) in
    let at_begin = c.potential.ensures ∙ ap («at» c.args.work.now.potentials) c.begin.ensures in
    let low = c.requires.within.0 in
    let high = c.requires.within.1 in
    let small_low = c.requires.small.low c.begin.result.0 there in
    let small_high = c.requires.small.high c.begin.result.0 there in
    let bound_is = c.requires.bound in
    lowered-made (without_bases c.args.self.now.net.now (map g.C.Monotone.items c.args.self.now.curves.now)) c.args.work.now _ _ c.args.step c.end-end.result.0 _
    c.set_potential.ensures c.set_label.ensures c.end-end.ensures (omega (arith, ints))
