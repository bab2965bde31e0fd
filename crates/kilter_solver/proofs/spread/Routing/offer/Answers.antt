use Rattle.std.proofs.Common.{◌≡◌, ap, ◌∙◌, arith}
use Rattle.std.proofs.lemmas.Int.{ints}
use Rattle.theory.specs.Network.{«at»}
use Rattle.theory.specs.Circuit.{begin_of, end_of}
use Rattle.net_incidence.specs.Graph.{bare}
use Rattle.kilter_solver.specs.Spread.{key}
use Rattle.kilter_solver.proofs.spread.Routing.offer.Goals as goal

pub overflow_sub-result : goal.overflow_sub-result
overflow_sub-result g c =
    let u = c.args.work.now.potentials in
    let from = begin_of (bare c.args.self.now.net.now) c.args.step in
    let to = end_of (bare c.args.self.now.net.now) c.args.step in
    let at_to : c.potential.result ≡ «at» u to = c.potential.ensures ∙ ap («at» u) c.end-to.ensures in
    let at_from : c.potential-2.result ≡ «at» u from = c.potential-2.ensures ∙ ap («at» u) c.begin-from.ensures in
    let low_to = (c.requires.ready.potentials to).0 in
    let high_to = (c.requires.ready.potentials to).1 in
    let low_from = (c.requires.ready.potentials from).0 in
    let high_from = (c.requires.ready.potentials from).1 in
    let low = c.requires.small.0 in
    let high = c.requires.small.1 in
    omega (arith, ints)

pub overflow_add-result : goal.overflow_add-result
overflow_add-result g c =
    let u = c.args.work.now.potentials in
    let from = begin_of (bare c.args.self.now.net.now) c.args.step in
    let to = end_of (bare c.args.self.now.net.now) c.args.step in
    let at_to : c.potential.result ≡ «at» u to = c.potential.ensures ∙ ap («at» u) c.end-to.ensures in
    let at_from : c.potential-2.result ≡ «at» u from = c.potential-2.ensures ∙ ap («at» u) c.begin-from.ensures in
    let key_from : c.key.result ≡ key c.args.work.now from = c.key.ensures ∙ ap (key c.args.work.now) c.begin-from.ensures in
    let low_to = (c.requires.ready.potentials to).0 in
    let high_to = (c.requires.ready.potentials to).1 in
    let low_from = (c.requires.ready.potentials from).0 in
    let high_from = (c.requires.ready.potentials from).1 in
    let low = c.requires.small.0 in
    let high = c.requires.small.1 in
    let key_low = c.requires.near.0 in
    let key_high = c.requires.near.1 in
    omega (arith, ints)

pub returns : goal.returns
returns g c =
    let u = c.args.work.now.potentials in
    let from = begin_of (bare c.args.self.now.net.now) c.args.step in
    let to = end_of (bare c.args.self.now.net.now) c.args.step in
    let at_to : c.potential.result ≡ «at» u to = c.potential.ensures ∙ ap («at» u) c.end-to.ensures in
    let at_from : c.potential-2.result ≡ «at» u from = c.potential-2.ensures ∙ ap («at» u) c.begin-from.ensures in
    let key_from : c.key.result ≡ key c.args.work.now from = c.key.ensures ∙ ap (key c.args.work.now) c.begin-from.ensures in
    let low_to = (c.requires.ready.potentials to).0 in
    let high_to = (c.requires.ready.potentials to).1 in
    let low_from = (c.requires.ready.potentials from).0 in
    let high_from = (c.requires.ready.potentials from).1 in
    let low = c.requires.small.0 in
    let high = c.requires.small.1 in
    let key_low = c.requires.near.0 in
    let key_high = c.requires.near.1 in
    omega (arith, ints)
