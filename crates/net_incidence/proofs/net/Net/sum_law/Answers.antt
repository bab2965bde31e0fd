use Rattle.std.proofs.Common.{map}
use Rattle.theory.proofs.SumLaw.{sum_law}
use Rattle.net_incidence.specs.Graph.{network}
use Rattle.net_incidence.proofs.Networks.{net_is_network}
use Rattle.net_incidence.proofs.net.Net.sum_law.Goals as goal

pub returns : goal.returns
returns g c x u conserved =
    sum_law (network c.args.self.now (map g.C.Listed.listing c.args.curves.now)) x u
    (net_is_network g.C.Listed.listing g.met.C.Listed.is_list c.args.self.now c.args.curves.now c.requires) conserved
