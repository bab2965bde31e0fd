-- What a valid certificate of the compiled model says of the table. An optimal pair's flow is a plan of its cost, and every plan over q is a flow
-- over q of the same cost, which the pair's cost is at most. A cut leaves no flow, so no plan. A circuit would need a span with an end.
use Rattle.std.proofs.Common.{◌≡◌, ℕ, pos, neg_ℤ, ◌*ℤ◌, ◌≤ℤ◌, length, drop, sym, ap, subst, ◌∙◌, arith}
use Rattle.std.proofs.lemmas.Int.{ints}
use Rattle.theory.specs.Network.{«at»}
use Rattle.theory.specs.Certificate.{Certificate}
use Rattle.theory.specs.Certificate.Certificate.{optimal, cut, circuit}
use Rattle.theory.proofs.Certificates.{certificate_says}
use Rattle.transport_front.specs.Table.{Table, IsTable}
use Rattle.transport_front.specs.Plan.{TransportLaw, outside}
use Rattle.transport_front.proofs.Compiled.{network, is_network}
use Rattle.transport_front.proofs.Flows.{flow_is_plan, flow_totals, plan_is_flow, drop_cost, plan_cost_is, flow_of}
use Rattle.transport_front.proofs.Shortages.{cut_is_shortage, no_circuit}

pub transport_law : TransportLaw
transport_law t (optimal x u cost value) kept valid =
    let says = certificate_says (network t) (optimal x u cost value) (is_network t kept) valid in (
      record {
        plan = flow_is_plan t kept 1 x says.flow;
        cost_is = sym (drop_cost t kept 1 x says.flow) ∙ sym valid.right.0;
        least = λ q y positive plan. subst (λ z. (pos q *ℤ cost) ≤ℤ z) (plan_cost_is t kept q y) (says.least q (flow_of t y) positive (plan_is_flow t kept q y plan));
      },
      flow_totals t kept 1 x says.flow,
    )
transport_law t (cut side capacity) kept valid =
    let says = certificate_says (network t) (cut side capacity) (is_network t kept) valid in
    record {
      is = cut_is_shortage t side valid.shows.negative ∙ ap neg_ℤ (sym valid.right);
      above = let below = valid.shows.negative in let is = valid.right in omega (arith, ints);
      none = λ q y positive plan. says q (flow_of t y) positive (plan_is_flow t kept q y plan);
    }
transport_law t (circuit x walk span) kept valid = no_circuit t walk valid.fits.0.1.there valid.shows.1
