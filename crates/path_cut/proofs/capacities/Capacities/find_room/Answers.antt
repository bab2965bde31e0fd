-- A path of free steps has room; a cut that none leaves holds what the last arc carries.
use Rattle.std.proofs.Common.{map, ◌∙◌}
use Rattle.std.proofs.lemmas.List.{length-map}
use Rattle.net_incidence.proofs.WithoutBases.{without_bases-network}
use Rattle.feasible_flow.proofs.Lists.{are-curves}
use Rattle.path_cut.proofs.Cuts.{start-is, goal-is, cut-is}
use Rattle.path_cut.proofs.capacities.Capacities.find_room.Goals as goal

pub returns-in-Cut-clause-found : goal.returns-in-Cut-clause-found
returns-in-Cut-clause-found g c =
    let net = c.args.net.now in
    let lists = map g.C.Monotone.items c.args.self.now.curves.now in
    let last = c.args.self.now.last.0 in
    let curves = are-curves g.C.Monotone.items g.met.C.Monotone.is_list g.met.C.Monotone.items_within c.args.self.now.curves.now in
    let good = without_bases-network net lists curves.are_lists (length-map c.args.self.now.curves.now g.C.Monotone.items ∙ c.requires.passable.one_curve_each) in
    let returns = c.requires.returns in
    rw c.search.ensures.flows
    (cut-is net lists curves good returns last c.requires.last c.args.work.now.flows c.search.new.work.reached c.to-start.result.0 c.from-goal.result.0
    (start-is net lists curves good returns last c.requires.last c.to-start.result.0 c.to-start.ensures)
    (goal-is net lists curves good returns last c.requires.last c.from-goal.result.0 c.from-goal.ensures)
    c.requires.feasible (c.search.ensures.cut c.in-Cut.is))
