use Rattle.std.proofs.Common.{ap, ◌∙◌}
use Rattle.net_incidence.specs.Graph.{network}
use Rattle.path_cut.proofs.Same.{flow-of, cut-of}
use Rattle.path_cut.proofs.flow_found.found_over.Goals as goal

pub carried-requires-clause-feasible : goal.carried-requires-clause-feasible
carried-requires-clause-feasible g c =
    let is = ap (network c.net-graph.result.now) c.curves-curves.ensures ∙ c.net-graph.ensures in
    flow-of c.net-graph.result.now c.curves-curves.result.now c.args.net.now is c.drawn_or_found.new.work.flows (c.drawn_or_found.ensures.flow c.in-Flow.is)

pub refused-requires-clause-negative : goal.refused-requires-clause-negative
refused-requires-clause-negative g c =
    let is = ap (network c.net-graph.result.now) c.curves-curves.ensures ∙ c.net-graph.ensures in
    cut-of c.net-graph.result.now c.curves-curves.result.now c.args.net.now is c.drawn_or_found.new.work.reached (c.drawn_or_found.ensures.cut c.in-Cut.is)
