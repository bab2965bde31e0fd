use Rattle.std.proofs.Common.{ap, ◌∙◌, length}
use Rattle.cert_text.proofs.Fitting.{optimal_flows, circuit_flows, circuit_walk}
use Rattle.cert_text.proofs.print.print_cert.Goals as goal

pub append_potentials-requires-clause-flows : goal.append_potentials-requires-clause-flows
append_potentials-requires-clause-flows c =
    ap length c.as_slice-in-Optimal.ensures ∙ optimal_flows c.args.m.now.entries c.args.c.now c.requires _ _ _ _ c.in-Optimal.is

pub append_arcs-requires : goal.append_arcs-requires
append_arcs-requires c =
    ap length c.as_slice-in-Optimal-2.ensures ∙ optimal_flows c.args.m.now.entries c.args.c.now c.requires _ _ _ _ c.in-Optimal.is

pub append_supplies-requires : goal.append_supplies-requires
append_supplies-requires c =
    ap length c.as_slice-in-Circuit.ensures ∙ circuit_flows c.args.m.now.entries c.args.c.now c.requires _ _ _ c.in-Circuit.is

pub append_arcs-requires-in-Circuit : goal.append_arcs-requires-in-Circuit
append_arcs-requires-in-Circuit c =
    ap length c.as_slice-in-Circuit-2.ensures ∙ circuit_flows c.args.m.now.entries c.args.c.now c.requires _ _ _ c.in-Circuit.is

pub append_walk-requires : goal.append_walk-requires
append_walk-requires c =
    let walk_fits = circuit_walk c.args.m.now.entries c.args.c.now c.requires c.in-Circuit.x c.in-Circuit.walk c.in-Circuit.span c.in-Circuit.is in
    rw c.as_slice-in-Circuit-3.ensures walk_fits
