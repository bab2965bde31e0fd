-- A path over endless steps is open; a cut that none leaves bounds all flows.
use Rattle.std.proofs.Common.{map, ◌∙◌}
use Rattle.std.proofs.lemmas.List.{length-map}
use Rattle.net_incidence.proofs.WithoutBases.{without_bases-network}
use Rattle.feasible_flow.proofs.Lists.{are-curves}
use Rattle.path_cut.proofs.Cuts.{start-is, goal-is, open-is, bound-is}
use Rattle.path_cut.proofs.flow.is_open.Goals as goal

pub returns-in-Path-clause-open : goal.returns-in-Path-clause-open
returns-in-Path-clause-open g c found =
    let net = c.args.net.now in
    let lists = map g.C.Monotone.items c.args.curves.now in
    let last = c.return_arc-last.result.0 in
    let curves = are-curves g.C.Monotone.items g.met.C.Monotone.is_list g.met.C.Monotone.items_within c.args.curves.now in
    let good = without_bases-network net lists curves.are_lists (length-map c.args.curves.now g.C.Monotone.items ∙ c.requires.passable.one_curve_each) in
    let returns = c.requires.returns in
    let last_is = c.return_arc-last.ensures.number in
    open-is net lists curves good returns last last_is c.search.new.work.walk c.to.result.0 c.from.result.0
    (start-is net lists curves good returns last last_is c.to.result.0 c.to.ensures)
    (goal-is net lists curves good returns last last_is c.from.result.0 c.from.ensures)
    (c.search.ensures.path c.in-Path.is)

pub returns-in-Cut-clause-bound : goal.returns-in-Cut-clause-bound
returns-in-Cut-clause-bound g c found =
    let net = c.args.net.now in
    let lists = map g.C.Monotone.items c.args.curves.now in
    let last = c.return_arc-last.result.0 in
    let curves = are-curves g.C.Monotone.items g.met.C.Monotone.is_list g.met.C.Monotone.items_within c.args.curves.now in
    let good = without_bases-network net lists curves.are_lists (length-map c.args.curves.now g.C.Monotone.items ∙ c.requires.passable.one_curve_each) in
    let returns = c.requires.returns in
    let last_is = c.return_arc-last.ensures.number in
    bound-is net lists curves good returns last last_is c.search.new.work.reached c.to.result.0 c.from.result.0
    (start-is net lists curves good returns last last_is c.to.result.0 c.to.ensures)
    (goal-is net lists curves good returns last last_is c.from.result.0 c.from.ensures)
    (c.search.ensures.cut c.in-Cut.is)
