use Rattle.std.proofs.Common.{rules, ◌∙◌, w64, SFits, to_z, of_z, to_z-of_z}
use Rattle.theory.specs.Limits.{number_most}
use Rattle.mono_curve.proofs.ReadingBounds.{slopes-within}
use Rattle.theory.specs.Network.{list_at}
use Rattle.kilter_solver.proofs.Prices.{price-forward, price-backward}
use Rattle.kilter_solver.proofs.spread.Routing.price.Goals as goal

pub backward_price-requires : goal.backward_price-requires
backward_price-requires g c =
    let s = c.args.self.now.bundle.now in
    let j = c.args.step.arc.0 in
    (slopes-within number_most (list_at (g.B.Bundle.lists s) j) _ c.slopes-low.result.0 c.slopes-low.result.1 (g.met.B.Bundle.are_lists s j)
    (g.met.B.Bundle.are_within s j) c.slopes-low.ensures.slopes).low

pub returns-then-step-clause-price : goal.returns-then-step-clause-price
returns-then-step-clause-price g c =
    let s = c.args.self.now.bundle.now in
    let j = c.args.step.arc.0 in
    let fits : SFits w64 c.flow.result = search rules in
    price-forward (list_at (g.B.Bundle.lists s) j) (g.met.B.Bundle.are_lists s j) (g.met.B.Bundle.are_within s j) _ c.args.step.forward
    (to_z w64 (of_z w64 c.flow.result)) c.slopes-low.result.0 c.slopes-low.result.1 c.forward_price.result c.if-step.true (to_z-of_z fits ∙ c.flow.ensures) c.slopes-low.ensures.slopes c.forward_price.ensures

pub returns-else-step-clause-price : goal.returns-else-step-clause-price
returns-else-step-clause-price g c =
    let s = c.args.self.now.bundle.now in
    let j = c.args.step.arc.0 in
    let fits : SFits w64 c.flow.result = search rules in
    price-backward (list_at (g.B.Bundle.lists s) j) (g.met.B.Bundle.are_lists s j) (g.met.B.Bundle.are_within s j) _ c.args.step.forward
    (to_z w64 (of_z w64 c.flow.result)) c.slopes-low.result.0 c.slopes-low.result.1 c.backward_price.result c.if-step.false (to_z-of_z fits ∙ c.flow.ensures) c.slopes-low.ensures.slopes c.backward_price.ensures
