use Rattle.std.proofs.Common.{◌∙◌, ap}
use Rattle.net_incidence.specs.Graph.{network}
use Rattle.kilter_solver.proofs.Parts.{left-of}
use Rattle.kilter_solver.proofs.solve_tests.solved_in_room.Goals as goal

pub certificate-requires : goal.certificate-requires
certificate-requires g c =
    let is = ap (network c.net.result.now) c.curves.ensures ∙ c.net.ensures in
    record {
      left = left-of c.net.result.now c.curves.result.now c.args.g.now.network is c.solve_in-kind.new.prepared.left c.solve_in-kind.result c.solve_in-kind.ensures.left;
    }
