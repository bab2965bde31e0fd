use Rattle.std.proofs.Common.{◌∙◌, length, ap}
use Rattle.std.proofs.lemmas.Result.{err_from_is_err_and}
use Rattle.net_incidence.specs.Graph.{Graph}
use Rattle.net_incidence.proofs.Graphs.{graph-same}
use Rattle.net_incidence.proofs.Incident.{with_node-incident}
use Rattle.net_incidence.proofs.net.Net.add_node.Goals as goal

pub invariant_of-self-2 : goal.invariant_of-self-2
invariant_of-self-2 c =
    with_node-incident c.self.inside.incidence _ c.self.inside.arcs.items c.self.invariant c.self.inside.good c.in_ok-add_node.ensures.ok

pub returns-in_err-add_node-clause-err : goal.returns-in_err-add_node-clause-err
returns-in_err-add_node-clause-err c =
    let p = err_from_is_err_and c.from_residual.result c.from_residual.ensures.1 in
    rw p.1
    (graph-same c.args.self.now _
    (ap length c.in_err-add_node.ensures.err ∙ ap (λ (g : Graph). g.nodes) c.self.view_is)
    (ap (λ (g : Graph). g.arcs) c.self.view_is))
