use Rattle.std.proofs.Common.{◌∙◌, ap}
use Rattle.net_incidence.specs.Graph.{network}
use Rattle.kilter_solver.proofs.Parts.{left-of}
use Rattle.kilter_solver.proofs.RightKind.{says_where_valid, kind_where_valid}
use Rattle.kilter_solver.proofs.solving.solve_kept.Goals as goal

pub copy_certificate-requires : goal.copy_certificate-requires
copy_certificate-requires g c =
    let is = ap (network c.net.result.now) c.curves.ensures ∙ c.net.ensures in
    record {
      left = left-of c.net.result.now c.curves.result.now c.args.g.now.network is c.solve_in-kind.new.prepared.left c.solve_in-kind.result c.solve_in-kind.ensures.left;
    }

pub returns-clause-left : goal.returns-clause-left
returns-clause-left g c =
    let is = ap (network c.net.result.now) c.curves.ensures ∙ c.net.ensures in
    left-of c.net.result.now c.curves.result.now c.args.g.now.network is c.solve_in-kind.new.prepared.left c.solve_in-kind.result c.solve_in-kind.ensures.left

pub returns-clause-says : goal.returns-clause-says
returns-clause-says g c =
    says_where_valid c.args.g.now.network c.args.g.now.good.is_network c.copy_certificate.result c.copy_certificate.ensures.valid

pub returns-clause-kind : goal.returns-clause-kind
returns-clause-kind g c =
    kind_where_valid c.args.g.now.network c.args.g.now.good.is_network c.copy_certificate.result c.copy_certificate.ensures.valid
