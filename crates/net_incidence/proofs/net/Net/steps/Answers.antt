use Rattle.std.proofs.Common.{◌≡◌, rules}
use Rattle.net_incidence.specs.Graph.{bare}
use Rattle.net_incidence.specs.Incidence.{incident_steps}
use Rattle.net_incidence.proofs.Incident.{steps-there, steps-begin}
use Rattle.net_incidence.proofs.net.Net.steps.Goals as goal

pub returns-clause-there : goal.returns-clause-there
returns-clause-there c =
    let e : c.steps.result.now ≡ incident_steps c.args.self.now.arcs c.args.node.0 = search rules in
    steps-there (bare c.args.self.now) c.args.node.0 _ e

pub returns-clause-begin : goal.returns-clause-begin
returns-clause-begin c =
    let e : c.steps.result.now ≡ incident_steps c.args.self.now.arcs c.args.node.0 = search rules in
    steps-begin (bare c.args.self.now) c.args.node.0 _ e
