-- The law of the table says what the certificate's kind says of it; there is no circuit.
use Rattle.std.proofs.Common.{◌≡◌, refl, rules}
use Rattle.std.specs.Prelude.{neg_ℤ}
use Rattle.transport_front.specs.Plan.{outside}
use Rattle.mono_top.specs.Transports.{flows_text, short_text}
use Rattle.transport_front.proofs.Law.{transport_law}
use Rattle.mono_top.proofs.TransportLemmas.{planned_by, short_by, flow_each}
use Rattle.mono_top.proofs.transport.say.Goals as goal

pub print_plan-requires : goal.print_plan-requires
print_plan-requires c = rw c.as_slice.ensures (flow_each c.args.table.now.table _ _ _ _ (rw c.in-Optimal.is at c.requires))

pub unreachable-requires : goal.unreachable-requires
unreachable-requires c = transport_law c.args.table.now.table _ c.args.table.now.kept (rw c.in-Circuit.is at c.requires)

pub returns-in_ok-print_plan-in-Optimal : goal.returns-in_ok-print_plan-in-Optimal
returns-in_ok-print_plan-in-Optimal c =
    let t = c.args.table.now.table in
    let text = c.in_ok-print_plan-in-Optimal.field-0 in
    let is : text ≡ flows_text t c.in-Optimal.x c.in-Optimal.cost = search rules in
    planned_by t c.in-Optimal.x c.in-Optimal.u c.in-Optimal.cost c.in-Optimal.value _ text c.args.table.now.kept (rw c.in-Optimal.is at c.requires) refl is

pub returns-in_ok-print_short-in-Cut : goal.returns-in_ok-print_short-in-Cut
returns-in_ok-print_short-in-Cut c =
    let t = c.args.table.now.table in
    let text = c.in_ok-print_short-in-Cut.field-0 in
    let is : text ≡ short_text t (outside c.in-Cut.side) (neg_ℤ c.in-Cut.capacity) = search rules in
    short_by t c.in-Cut.side c.in-Cut.capacity _ text c.args.table.now.kept (rw c.in-Cut.is at c.requires) refl is
