use Rattle.feasible_flow.proofs.DomainEnds.{first-within, last-within}
use Rattle.feasible_flow.proofs.Lists.{level-curves}
use Rattle.feasible_flow.proofs.domains.Domains.need_of.Goals as goal

pub missing-missing-requires-clause-end_within : goal.missing-missing-requires-clause-end_within
missing-missing-requires-clause-end_within g c =
    let curves = level-curves g.C.Monotone.items g.met.C.Monotone.is_list g.met.C.Monotone.items_within c.args.self.now.level
    c.args.self.now.curves.now in
    rw c.ends-low.ensures.low (first-within _ (curves.within c.args.arc.0))

pub surplus-surplus-requires-clause-end_within : goal.surplus-surplus-requires-clause-end_within
surplus-surplus-requires-clause-end_within g c =
    let curves = level-curves g.C.Monotone.items g.met.C.Monotone.is_list g.met.C.Monotone.items_within c.args.self.now.level
    c.args.self.now.curves.now in
    rw c.ends-low.ensures.high (last-within _ (curves.are_lists c.args.arc.0) (curves.within c.args.arc.0))
