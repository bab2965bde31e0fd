use Rattle.std.proofs.Common.{map}
use Rattle.theory.proofs.Duality.{weak_duality}
use Rattle.net_incidence.specs.Graph.{network}
use Rattle.net_incidence.proofs.Networks.{net_is_network}
use Rattle.net_incidence.proofs.net.Net.weak_duality.Goals as goal

pub returns : goal.returns
returns g c q x u one flow potential =
    weak_duality (network c.args.self.now (map g.C.Listed.listing c.args.curves.now)) q x u one
    (net_is_network g.C.Listed.listing g.met.C.Listed.is_list c.args.self.now c.args.curves.now c.requires) flow potential
