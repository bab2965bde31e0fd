use Rattle.std.proofs.Common.{map}
use Rattle.net_incidence.specs.WithoutBases.{without_bases}
use Rattle.path_cut.proofs.Augmenting.{augmented-within}
use Rattle.path_cut.proofs.flow.greatest_flow.Goals as goal

pub returns-clause-within : goal.returns-clause-within
returns-clause-within g c =
    augmented-within (without_bases c.args.net.now (map g.C.Monotone.items c.args.curves.now)) c.args.work.now.flows c.augment.new.work.flows
    c.requires.passable.few_arcs c.requires.near (c.is_open.ensures.bound c.if-is_open.false)
    (rw c.is_open.ensures.flows at c.augment.ensures.augmented)
