use Rattle.std.proofs.Common.{ap, ◌∙◌, length}
use Rattle.cert_text.proofs.Fitting.{yes_flows}
use Rattle.cert_text.proofs.feasible.append_flow_part.Goals as goal

pub append_supplies-requires : goal.append_supplies-requires
append_supplies-requires c = ap length c.as_slice.ensures ∙ yes_flows c.args.m.now.entries c.args.flow.now c.requires c.in-Yes.x c.in-Yes.is

pub append_arcs-requires : goal.append_arcs-requires
append_arcs-requires c = ap length c.as_slice-in-Yes.ensures ∙ yes_flows c.args.m.now.entries c.args.flow.now c.requires c.in-Yes.x c.in-Yes.is
