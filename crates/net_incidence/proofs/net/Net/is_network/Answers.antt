use Rattle.net_incidence.proofs.Networks.{net_is_network}
use Rattle.net_incidence.proofs.net.Net.is_network.Goals as goal

pub returns : goal.returns
returns g c = net_is_network g.C.Listed.listing g.met.C.Listed.is_list c.args.self.now c.args.curves.now c.requires
