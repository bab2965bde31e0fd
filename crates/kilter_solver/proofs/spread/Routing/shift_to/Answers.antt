use Rattle.std.proofs.Common.{◌≡◌, ℤ, ◌+◌, sym, ap, ◌∙◌, subst, to_z-of_z, arith}
use Rattle.std.proofs.lemmas.Int.{ints}
use Rattle.theory.specs.Limits.{IsWithin}
use Rattle.painted_search.specs.Room.{Room}
use Rattle.painted_search.specs.Writes.{with_flow}
use Rattle.kilter_solver.specs.Ranges.{excess_most, far_most}
use Rattle.kilter_solver.specs.Excess.{excess}
use Rattle.kilter_solver.proofs.Clamps.{shifted-by, word-within}
use Rattle.kilter_solver.proofs.spread.Routing.shift_to.Goals as goal

pub add_excess-requires-2-clause-excess : goal.add_excess-requires-2-clause-excess
add_excess-requires-2-clause-excess g c =
    let to = c.to.result.0 in
    let same : excess c.set_flow.new.self to ≡ excess c.args.work.now to = ap (λ (r : Room). excess r to) c.set_flow.ensures in
    let nodes : c.set_flow.new.self.nodes ≡ c.args.work.now.nodes = ap (λ (r : Room). r.nodes) c.set_flow.ensures in
    let low = c.requires.small.0 in
    let high = c.requires.small.1 in
    let x = c.flow-flow.ensures in
    let from_there = c.args.self.now.net.now.good.tails c.args.arc.0 c.requires.there in
    word-within c.set_flow.new.self c.add_excess.new.work c.from.result.0 to _
    (omega (arith, c.from.ensures, c.requires.ready.same_nodes)) c.add_excess.ensures (omega (arith, ints), omega (arith, ints))
    (subst (λ (z : ℤ). IsWithin (far_most + excess_most) z) (sym same) (c.requires.ready.small to (omega (arith, c.to.ensures, c.args.self.now.net.now.good.heads c.args.arc.0 c.requires.there))))

pub returns : goal.returns
returns g c =
    let low = c.requires.small.0 in
    let high = c.requires.small.1 in
    let x = c.flow-flow.ensures in
    shifted-by c.args.self.now.net.now c.args.arc.0 c.from.result.0 c.to.result.0 c.args.near _ _ c.args.work.now c.set_flow.new.self
    c.add_excess.new.work c.add_excess-2.new.work c.requires.there c.requires.ready.same_nodes c.requires.ready.same_arcs c.from.ensures c.to.ensures
    (c.set_flow.ensures ∙ ap (λ z. with_flow c.args.work.now c.args.arc.0 z) (to_z-of_z c.ranges.near)) c.add_excess.ensures c.add_excess-2.ensures
    (omega (arith, ints)) (omega (arith, ints))
