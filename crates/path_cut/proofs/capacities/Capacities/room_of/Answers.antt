use Rattle.feasible_flow.proofs.DomainEnds.{first-within, last-within}
use Rattle.feasible_flow.proofs.Lists.{are-curves}
use Rattle.path_cut.proofs.capacities.Capacities.room_of.Goals as goal

pub distance-requires-clause-end_within : goal.distance-requires-clause-end_within
distance-requires-clause-end_within g c =
    let curves = are-curves g.C.Monotone.items g.met.C.Monotone.is_list g.met.C.Monotone.items_within c.args.self.now.curves.now in
    rw c.ends-low.ensures.high (last-within _ (curves.are_lists c.args.step.arc.0) (curves.within c.args.step.arc.0))

pub distance-requires-else-step-clause-end_within : goal.distance-requires-else-step-clause-end_within
distance-requires-else-step-clause-end_within g c =
    let curves = are-curves g.C.Monotone.items g.met.C.Monotone.is_list g.met.C.Monotone.items_within c.args.self.now.curves.now in
    rw c.ends-low.ensures.low (first-within _ (curves.within c.args.step.arc.0))
