use Rattle.std.proofs.Common.{◌≡◌, ◌∙◌, ◌+◌, length, map, arith}
use Rattle.theory.specs.Limits.{level_most}
use Rattle.kilter_solver.specs.BundleFacts.{all_lists, all_within}
use Rattle.curve_views.proofs.LevelFlows.{top_level}
use Rattle.kilter_solver.proofs.Leveling.{leveled-begun, leveled-small, grounded-pair, grounded-flows, grounded-potentials, readings-all, readings-some}
use Rattle.kilter_solver.proofs.balancing.balance.Goals as goal

pub loop-done-init : goal.loop-done-init
loop-done-init g c =
    let curves = c.args.curves.now in
    let items = g.C.Monotone.items in
    record {
      leveled = leveled-begun top_level c.args.net.now (map items curves) level_most (omega arith) (all_lists items g.met.C.Monotone.is_list curves)
          (all_within items g.met.C.Monotone.items_within curves) c.args.work.now c.begin.new.work c.requires.fits c.requires.potential
          c.requires.near c.begin.ensures;
      no_fewer = omega arith;
      count = omega arith;
    }

pub loop-done-preserved : goal.loop-done-preserved
loop-done-preserved g c =
    let before = c.loop-done.invariant in
    record {
      leveled = c.balance_level.ensures.leveled c.in-Done.is;
      no_fewer = omega (arith, before.no_fewer, c.balance_level.ensures.no_fewer);
      count = omega (arith, before.count, c.balance_level.ensures.count);
    }

pub returns-in-Cut-clause-count : goal.returns-in-Cut-clause-count
returns-in-Cut-clause-count g c =
    readings-some c.args.net.now.nodes (length c.args.net.now.arcs) c.loop-done.done c.args.steps.now c.loop-done.steps c.balance_level.new.steps
    (omega arith) c.loop-done.invariant.count c.balance_level.ensures.count

pub ground-requires : goal.ground-requires
ground-requires g c =
    let net = c.args.net.now in
    let lists = map g.C.Monotone.items c.args.curves.now in
    let all : c.loop-done.done ≡ level_most + 1 = omega arith in
    leveled-small net lists c.loop-done.done (length c.args.curves.now) all c.requires.passable c.loop-done.work c.loop-done.invariant.leveled

pub returns-clause-pair : goal.returns-clause-pair
returns-clause-pair g c =
    let net = c.args.net.now in
    let lists = map g.C.Monotone.items c.args.curves.now in
    let all : c.loop-done.done ≡ level_most + 1 = omega arith in
    λ _. grounded-pair net lists c.loop-done.done (length c.args.curves.now) all c.requires.passable c.loop-done.work c.loop-done.invariant.leveled c.ground.new.work
    c.ground.ensures

pub returns-clause-flows : goal.returns-clause-flows
returns-clause-flows g c =
    let net = c.args.net.now in
    let lists = map g.C.Monotone.items c.args.curves.now in
    let all : c.loop-done.done ≡ level_most + 1 = omega arith in
    λ _. grounded-flows net lists c.loop-done.done (length c.args.curves.now) all c.requires.passable c.loop-done.work c.loop-done.invariant.leveled c.ground.new.work
    c.ground.ensures

pub returns-clause-potentials : goal.returns-clause-potentials
returns-clause-potentials g c =
    let net = c.args.net.now in
    let lists = map g.C.Monotone.items c.args.curves.now in
    let all : c.loop-done.done ≡ level_most + 1 = omega arith in
    λ _. grounded-potentials net lists c.loop-done.done (length c.args.curves.now) all c.requires.passable c.loop-done.work c.loop-done.invariant.leveled c.ground.new.work
    c.ground.ensures

pub returns-clause-fits : goal.returns-clause-fits
returns-clause-fits g c =
    let leveled = c.loop-done.invariant.leveled in
    record { same_nodes = c.ground.ensures.nodes ∙ leveled.same_nodes; same_arcs = c.ground.ensures.arcs ∙ leveled.same_arcs }

pub returns-clause-count : goal.returns-clause-count
returns-clause-count g c =
    let all : c.loop-done.done ≡ level_most + 1 = omega arith in
    readings-all c.args.net.now.nodes (length c.args.net.now.arcs) c.loop-done.done c.args.steps.now c.loop-done.steps all c.loop-done.invariant.count
