-- The room of a free step is the distance to the end of the domain that it leads to.
use Rattle.std.proofs.Common.{ap, ◌∙◌, rules, w64, SFits, to_z-of_z}
use Rattle.theory.specs.Network.{«at», list_at}
use Rattle.feasible_flow.specs.Violations.{distance}
use Rattle.feasible_flow.specs.ByLevels.{levels_of}
use Rattle.feasible_flow.proofs.DomainEnds.{ahead-within}
use Rattle.feasible_flow.proofs.OneArc.{room-ahead}
use Rattle.feasible_flow.proofs.Lists.{level-curves}
use Rattle.feasible_flow.proofs.domains.Domains.room_of.Goals as goal

pub distance-requires-clause-end_within : goal.distance-requires-clause-end_within
distance-requires-clause-end_within g c =
    let curves = level-curves g.C.Monotone.items g.met.C.Monotone.is_list g.met.C.Monotone.items_within c.args.self.now.level
    c.args.self.now.curves.now in
    let j = c.args.step.arc.0 in
    ahead-within (list_at (levels_of g.C.Monotone.items c.args.self.now.level c.args.self.now.curves.now) j) c.ends-low.result.0 c.ends-low.result.1
    c.end_ahead.result c.args.step.forward (curves.are_lists j) (curves.within j) c.ends-low.ensures.low c.ends-low.ensures.high c.end_ahead.ensures

pub returns-clause-room : goal.returns-clause-room
returns-clause-room g c =
    let j = c.args.step.arc.0 in
    let flow_fits : SFits w64 c.flow.result = search rules in
    let flow_is = to_z-of_z flow_fits ∙ c.flow.ensures in
    room-ahead (list_at (levels_of g.C.Monotone.items c.args.self.now.level c.args.self.now.curves.now) j) («at» c.args.work.now.flows j)
    c.args.step.forward c.ends-low.result.0 c.ends-low.result.1 c.end_ahead.result c.distance.result c.ends-low.ensures.low c.ends-low.ensures.high
    c.end_ahead.ensures (c.distance.ensures ∙ ap (distance c.end_ahead.result) flow_is) c.requires.free
