use Rattle.std.proofs.Common.{◌≤◌, ◌*◌, length, map, ◌∙◌, arith}
use Rattle.std.proofs.lemmas.List.{length-map}
use Rattle.kilter_solver.specs.BundleFacts.{all_lists, greatest}
use Rattle.kilter_solver.specs.Leveling.{levels_of}
use Rattle.curve_views.proofs.LevelFlows.{doubled_flow}
use Rattle.curve_views.proofs.LevelCuts.{cut_of_level}
use Rattle.kilter_solver.proofs.Leveling.{IsLevelStep, level-step, leveled-far, doubled-loose, clamped-balancing, clamped-safe, few_surpluses, routed-leveled, level-cut, readings-level, light-most}
use Rattle.kilter_solver.proofs.balancing.balance_level.Goals as goal

pub double-requires : goal.double-requires
double-requires g c =
    leveled-far c.args.net.now (map g.C.Monotone.items c.args.curves.now) c.args.done c.args.work.now c.requires.passable.few_arcs c.requires.level c.requires.leveled

pub clamp-requires : goal.clamp-requires
clamp-requires g c =
    let net = c.args.net.now in
    let curves = c.args.curves.now in
    let items = g.C.Monotone.items in
    let d = c.args.done in
    let k = c.of-bundle.result.k in
    let v = c.args.work.now in
    let b = c.double.new.work in
    let lists = map items curves in
    let levels = levels_of items k c.of-bundle.result.curves.now in
    let step : IsLevelStep net lists levels d k v b =
    level-step items net curves c.of-bundle.result.curves.now d k v b c.of-bundle.ensures.curves (omega (arith, c.of-bundle.ensures.level, c.requires.level))
    c.requires.passable c.requires.leveled c.double.ensures in
    record { loose = doubled-loose net lists levels d k v b step }

pub route-requires-clause-balancing : goal.route-requires-clause-balancing
route-requires-clause-balancing g c =
    let net = c.args.net.now in
    let curves = c.args.curves.now in
    let items = g.C.Monotone.items in
    let d = c.args.done in
    let k = c.of-bundle.result.k in
    let v = c.args.work.now in
    let b = c.double.new.work in
    let lists = map items curves in
    let levels = levels_of items k c.of-bundle.result.curves.now in
    let step : IsLevelStep net lists levels d k v b =
    level-step items net curves c.of-bundle.result.curves.now d k v b c.of-bundle.ensures.curves (omega (arith, c.of-bundle.ensures.level, c.requires.level))
    c.requires.passable c.requires.leveled c.double.ensures in
    clamped-balancing net lists levels d k v b step c.clamp.new.work c.clamp.ensures.clamped

pub route-requires-clause-safe : goal.route-requires-clause-safe
route-requires-clause-safe g c =
    let net = c.args.net.now in
    let curves = c.args.curves.now in
    let items = g.C.Monotone.items in
    let d = c.args.done in
    let k = c.of-bundle.result.k in
    let v = c.args.work.now in
    let b = c.double.new.work in
    let lists = map items curves in
    let levels = levels_of items k c.of-bundle.result.curves.now in
    let step : IsLevelStep net lists levels d k v b =
    level-step items net curves c.of-bundle.result.curves.now d k v b c.of-bundle.ensures.curves (omega (arith, c.of-bundle.ensures.level, c.requires.level))
    c.requires.passable c.requires.leveled c.double.ensures in
    clamped-safe net lists levels d k v b step c.clamp.new.work c.clamp.ensures.clamped

pub returns-clause-leveled : goal.returns-clause-leveled
returns-clause-leveled g c =
    let net = c.args.net.now in
    let curves = c.args.curves.now in
    let items = g.C.Monotone.items in
    let d = c.args.done in
    let k = c.of-bundle.result.k in
    let v = c.args.work.now in
    let b = c.double.new.work in
    let lists = map items curves in
    let levels = levels_of items k c.of-bundle.result.curves.now in
    let step : IsLevelStep net lists levels d k v b =
    level-step items net curves c.of-bundle.result.curves.now d k v b c.of-bundle.ensures.curves (omega (arith, c.of-bundle.ensures.level, c.requires.level))
    c.requires.passable c.requires.leveled c.double.ensures in
    λ done.
    routed-leveled net lists levels d k v b step c.clamp.new.work c.clamp.ensures.clamped doubled_flow (all_lists items g.met.C.Monotone.is_list curves)
    c.route.new.work c.route.ensures.balancing c.route.ensures.routes (c.route.ensures.conserved done)

pub returns-clause-cut : goal.returns-clause-cut
returns-clause-cut g c =
    let net = c.args.net.now in
    let curves = c.args.curves.now in
    let items = g.C.Monotone.items in
    let d = c.args.done in
    let k = c.of-bundle.result.k in
    let v = c.args.work.now in
    let b = c.double.new.work in
    let lists = map items curves in
    let levels = levels_of items k c.of-bundle.result.curves.now in
    let step : IsLevelStep net lists levels d k v b =
    level-step items net curves c.of-bundle.result.curves.now d k v b c.of-bundle.ensures.curves (omega (arith, c.of-bundle.ensures.level, c.requires.level))
    c.requires.passable c.requires.leveled c.double.ensures in
    λ cut.
    level-cut cut_of_level net lists levels k (all_lists items g.met.C.Monotone.is_list curves) (length-map curves items ∙ c.requires.passable.one_curve_each)
    step.at_level c.route.new.work.reached (c.route.ensures.cut cut)

pub returns-clause-count : goal.returns-clause-count
returns-clause-count g c =
    let net = c.args.net.now in
    let curves = c.args.curves.now in
    let items = g.C.Monotone.items in
    let d = c.args.done in
    let k = c.of-bundle.result.k in
    let v = c.args.work.now in
    let b = c.double.new.work in
    let lists = map items curves in
    let levels = levels_of items k c.of-bundle.result.curves.now in
    let step : IsLevelStep net lists levels d k v b =
    level-step items net curves c.of-bundle.result.curves.now d k v b c.of-bundle.ensures.curves (omega (arith, c.of-bundle.ensures.level, c.requires.level))
    c.requires.passable c.requires.leveled c.double.ensures in
    let light = light-most g.C.Monotone.weight curves c.requires.light in
    let weight : 3 * greatest g.C.Monotone.weight c.of-bundle.result.curves.now ≤ 3 = rw c.of-bundle.ensures.curves (omega arith) in
    readings-level (length net.arcs) (3 * greatest g.C.Monotone.weight c.of-bundle.result.curves.now) _ c.args.steps.now c.clamp.new.steps c.route.new.steps
    weight (few_surpluses net lists levels d k v b step c.clamp.new.work c.clamp.ensures.clamped) c.clamp.ensures.count c.route.ensures.count
