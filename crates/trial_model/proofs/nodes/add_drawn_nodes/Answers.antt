use Rattle.std.proofs.Common.{◌≡◌, ◌+◌, ◌-ℤ◌, ◌+ℤ◌, pos, ℤ, refl, sym, ◌∙◌, subst, to_z, of_z, w64, arith}
use Rattle.std.proofs.lemmas.Int.{ints}
use Rattle.trial_model.proofs.NodeSteps.{AreDrawn, nothing_drawn, one_more, next_free}
use Rattle.trial_model.proofs.nodes.add_drawn_nodes.Goals as goal

pub loop-position-init : goal.loop-position-init
loop-position-init c = record { drawn = nothing_drawn c.args.draws.now.state c.args.model.now.entries c.requires; scale = refl }

pub add_node-requires-clause-free : goal.add_node-requires-clause-free
add_node-requires-clause-free c =
    next_free c.args.draws.now.state c.loop-position.position c.loop-position.model.entries (omega arith) c.loop-position.invariant.drawn.entries_are

pub loop-position-preserved : goal.loop-position-preserved
loop-position-preserved c =
    let sum : ℤ = c.loop-position.sum in
    let so_far : AreDrawn c.args.draws.now.state c.loop-position.position c.loop-position.model.entries c.loop-position.draws.state sum =
    rw c.loop-position.sum-is at c.loop-position.invariant.drawn in
    let low = so_far.low in
    let high = so_far.high in
    let supply : c.supply_of-supply.result ≡ pos c.draw.result -ℤ pos 10 = c.supply_of-supply.ensures in
    let passed : to_z w64 (of_z w64 c.supply_of-supply.result) ≡ pos c.draw.result -ℤ pos 10 = omega (arith, ints) in
    let total : to_z w64 (of_z w64 (to_z w64 c.loop-position.sum-bits +ℤ to_z w64 (of_z w64 c.supply_of-supply.result))) ≡ sum +ℤ (pos c.draw.result -ℤ pos 10) =
    omega (arith, ints) in
    let drawn : AreDrawn c.args.draws.now.state (c.loop-position.position + 1) c.add_node.new.model.entries c.draw.new.self.state
    (to_z w64 (of_z w64 (to_z w64 c.loop-position.sum-bits +ℤ to_z w64 (of_z w64 c.supply_of-supply.result)))) =
    subst (λ z. AreDrawn c.args.draws.now.state (c.loop-position.position + 1) c.add_node.new.model.entries c.draw.new.self.state z) (sym total)
    (one_more c.args.draws.now.state c.loop-position.position c.loop-position.model.entries c.add_node.new.model.entries c.loop-position.draws.state
    c.draw.new.self.state c.draw.result sum so_far c.draw.ensures.drawn
    (rw passed at c.in_ok-add_node.ensures.added) c.draw.ensures.state) in
    record { drawn = drawn; scale = c.add_node.ensures.scale ∙ c.loop-position.invariant.scale }
