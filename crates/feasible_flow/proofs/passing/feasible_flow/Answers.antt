-- From the room's flows or level by level, the flows end within the domains of level 0, or at a cut of a level.
use Rattle.std.proofs.Common.{◌+◌, ◌*◌, map, length, ◌∙◌, arith}
use Rattle.std.proofs.lemmas.List.{length-map}
use Rattle.theory.specs.Limits.{level_most}
use Rattle.feasible_flow.specs.Violations.{total_violation}
use Rattle.feasible_flow.specs.UnderWay.{round_cost}
use Rattle.feasible_flow.specs.ByLevels.{levels_of, level_cost}
use Rattle.curve_views.proofs.LevelCuts.{cut_of_level}
use Rattle.feasible_flow.proofs.LevelsDone.{leveled-curves, way-begun, settled-more, settled-feasible, settled-numbers, cut-of_level}
use Rattle.feasible_flow.proofs.Spent.{either-spent, start-spent, levels-spent}
use Rattle.feasible_flow.proofs.passing.feasible_flow.Goals as goal

pub settle_all-requires-clause-under_way : goal.settle_all-requires-clause-under_way
settle_all-requires-clause-under_way g c =
    let items = g.C.Monotone.items in
    let net = c.args.net.now in
    let curves = c.args.curves.now in
    let are = leveled-curves items g.met.C.Monotone.is_list g.met.C.Monotone.items_within net curves c.requires.passable in
    way-begun items net curves c.args.work.now.flows are (c.args.work.now.sized.one_flow_each ∙ c.requires.fits.same_arcs)
    (c.will_do-will_do.ensures.answer.0 c.if-will_do.true)

pub returns-then-will_do-clause-flow : goal.returns-then-will_do-clause-flow
returns-then-will_do-clause-flow g c found =
    let items = g.C.Monotone.items in
    let net = c.args.net.now in
    let curves = c.args.curves.now in
    let are = leveled-curves items g.met.C.Monotone.is_list g.met.C.Monotone.items_within net curves c.requires.passable in
    settled-feasible net (map items curves) c.settle_all.new.work.flows
    (settled-more items net curves 0 level_most c.settle_all.new.work.flows are (omega arith) c.settle_all.ensures.under_way
    (c.settle_all.ensures.settled (c.answer.ensures.flow found)))

pub returns-then-will_do-clause-within : goal.returns-then-will_do-clause-within
returns-then-will_do-clause-within g c found =
    let items = g.C.Monotone.items in
    let net = c.args.net.now in
    let curves = c.args.curves.now in
    let are = leveled-curves items g.met.C.Monotone.is_list g.met.C.Monotone.items_within net curves c.requires.passable in
    settled-numbers net (map items curves) c.settle_all.new.work.flows c.requires.passable.few_arcs
    (settled-more items net curves 0 level_most c.settle_all.new.work.flows are (omega arith) c.settle_all.ensures.under_way
    (c.settle_all.ensures.settled (c.answer.ensures.flow found)))

pub returns-then-will_do-clause-cut : goal.returns-then-will_do-clause-cut
returns-then-will_do-clause-cut g c found =
    let items = g.C.Monotone.items in
    let net = c.args.net.now in
    let curves = c.args.curves.now in
    let are = leveled-curves items g.met.C.Monotone.is_list g.met.C.Monotone.items_within net curves c.requires.passable in
    cut-of_level cut_of_level items net curves 0 c.settle_all.new.work.reached are (length-map curves items ∙ c.requires.passable.one_curve_each)
    (c.settle_all.ensures.cut (c.answer.ensures.cut found))

pub returns-then-will_do-clause-count : goal.returns-then-will_do-clause-count
returns-then-will_do-clause-count g c =
    let net = c.args.net.now in
    let m = length net.arcs in
    let violation = total_violation m (levels_of g.C.Monotone.items 0 c.args.curves.now) c.args.work.now.flows in
    let will = c.will_do-will_do.ensures.answer.0 c.if-will_do.true in
    start-spent net.nodes m violation c.args.steps.now c.will_do-will_do.new.steps c.settle_all.new.steps will.little c.will_do-will_do.ensures.count
    (either-spent c.settle_all.result c.settle_all.new.steps (c.will_do-will_do.new.steps + level_cost net.nodes m violation) (m * round_cost net.nodes m)
    c.settle_all.ensures.count c.settle_all.ensures.cut_count)

pub returns-clause-flow : goal.returns-clause-flow
returns-clause-flow g c found =
    settled-feasible c.args.net.now (map g.C.Monotone.items c.args.curves.now) c.settle_levels.new.work.flows
    (c.settle_levels.ensures.settled (c.answer-2.ensures.flow found))

pub returns-clause-within : goal.returns-clause-within
returns-clause-within g c found =
    settled-numbers c.args.net.now (map g.C.Monotone.items c.args.curves.now) c.settle_levels.new.work.flows c.requires.passable.few_arcs
    (c.settle_levels.ensures.settled (c.answer-2.ensures.flow found))

pub returns-clause-count : goal.returns-clause-count
returns-clause-count g c =
    let m = length c.args.net.now.arcs in
    levels-spent c.args.net.now.nodes m c.args.steps.now c.will_do-will_do.new.steps c.settle_levels.new.steps c.will_do-will_do.ensures.count
    c.settle_levels.ensures.count
