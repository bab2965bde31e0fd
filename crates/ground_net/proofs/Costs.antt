-- A cost of a certificate's flow is within the base and the greatest slope times the way from the rest point to the flow, at most
-- twice the greatest flow. So the costs of all arcs add up to less than a certificate's number may be.
use Rattle.std.proofs.Common.{◌≡◌, ◌+◌, ◌*◌, ℤ, subst, arith}
use Rattle.theory.specs.CurveList.{Listing}
use Rattle.theory.specs.Cost.{cost}
use Rattle.theory.specs.Limits.{IsWithin, number_most, base_most, flow_most}
use Rattle.theory.proofs.Bounds.{within_more, cost-within}
use Rattle.mono_curve.specs.CurveValue.{CurveValue}
use Rattle.ground_net.specs.Costs.{cost_most}

pub cost_near : (c : CurveValue) (listed : Listing) (x : ℤ) → c.listing ≡ listed → IsWithin flow_most x → IsWithin cost_most (cost 1 listed x)
cost_near c listed x is inside =
    let l = c.listing in
    let near = cost-within base_most number_most flow_most l.items l.base x c.valid.is_list (omega arith) c.valid.items_within c.valid.base_within inside in
    subst (λ (k : Listing). IsWithin cost_most (cost 1 k x)) is
    (within_more (base_most + number_most * (flow_most + flow_most)) cost_most (cost 1 l x) (omega arith) near)
