-- What is within the domains of one level is doubled, lacks at most a unit on each arc at the next one, and is brought in again.
use Rattle.std.proofs.Common.{◌≡◌, ◌+◌, ◌-◌, length, map, refl, ◌∙◌, arith}
use Rattle.std.proofs.lemmas.List.{length-map}
use Rattle.theory.specs.Limits.{level_most}
use Rattle.feasible_flow.specs.Violations.{total_violation}
use Rattle.feasible_flow.specs.ByLevels.{levels_of}
use Rattle.curve_views.proofs.LevelCuts.{cut_of_level}
use Rattle.feasible_flow.proofs.LevelsDone.{leveled-curves, settled-zero, settled-near, lacks-few, way-doubled, settled-more, cut-of_level}
use Rattle.feasible_flow.proofs.Spent.{one-more-level, cut-at-level}
use Rattle.feasible_flow.proofs.passing.settle_levels.Goals as goal

pub loop-done-init : goal.loop-done-init
loop-done-init g c =
    let items = g.C.Monotone.items in
    let net = c.args.net.now in
    let curves = c.args.curves.now in
    let are = leveled-curves items g.met.C.Monotone.is_list g.met.C.Monotone.items_within net curves c.requires.passable in
    record {
      fits = c.requires.fits;
      settled = settled-zero items net curves c.args.work.now.flows are (c.args.work.now.sized.one_flow_each ∙ c.requires.fits.same_arcs) c.requires.zero;
      potentials = refl;
      no_fewer = omega arith;
      count = omega arith;
    }

pub double_flows-requires : goal.double_flows-requires
double_flows-requires g c =
    settled-near c.args.net.now (map g.C.Monotone.items c.args.curves.now) c.loop-done.done c.loop-done.work.flows c.requires.passable.few_arcs
    (omega (arith, c.loop-done-test.true)) c.loop-done.invariant.settled

pub settle_all-requires-clause-under_way : goal.settle_all-requires-clause-under_way
settle_all-requires-clause-under_way g c =
    let items = g.C.Monotone.items in
    let net = c.args.net.now in
    let curves = c.args.curves.now in
    let are = leveled-curves items g.met.C.Monotone.is_list g.met.C.Monotone.items_within net curves c.requires.passable in
    let doubled = c.double_flows.ensures in
    way-doubled items net curves (level_most - c.loop-done.done) c.loop-done.done c.loop-done.work.flows c.double_flows.new.work.flows are
    (omega (arith, c.loop-done-test.true)) c.loop-done.invariant.settled
    (c.double_flows.new.work.sized.one_flow_each ∙ doubled.same.arcs ∙ c.loop-done.invariant.fits.same_arcs) doubled.twice

pub returns-then-not-settle_all-clause-cut : goal.returns-then-not-settle_all-clause-cut
returns-then-not-settle_all-clause-cut g c found =
    let items = g.C.Monotone.items in
    let net = c.args.net.now in
    let curves = c.args.curves.now in
    let are = leveled-curves items g.met.C.Monotone.is_list g.met.C.Monotone.items_within net curves c.requires.passable in
    cut-of_level cut_of_level items net curves (level_most - c.loop-done.done) c.settle_all.new.work.reached are
    (length-map curves items ∙ c.requires.passable.one_curve_each) (c.settle_all.ensures.cut c.if-not-settle_all.true)

pub returns-then-not-settle_all-clause-count : goal.returns-then-not-settle_all-clause-count
returns-then-not-settle_all-clause-count g c =
    let items = g.C.Monotone.items in
    let net = c.args.net.now in
    let curves = c.args.curves.now in
    let m = length net.arcs in
    let d = c.loop-done.done in
    let are = leveled-curves items g.met.C.Monotone.is_list g.met.C.Monotone.items_within net curves c.requires.passable in
    cut-at-level net.nodes m (total_violation m (levels_of items (level_most - d) curves) c.double_flows.new.work.flows) d c.args.steps.now c.loop-done.steps
    c.settle_all.new.steps
    (lacks-few items net curves (level_most - d) d c.loop-done.work.flows c.double_flows.new.work.flows are (omega (arith, c.loop-done-test.true))
    c.loop-done.invariant.settled c.double_flows.ensures.twice)
    (omega (arith, c.loop-done-test.true)) c.loop-done.invariant.count (c.settle_all.ensures.cut_count c.if-not-settle_all.true)

pub loop-done-preserved : goal.loop-done-preserved
loop-done-preserved g c =
    let items = g.C.Monotone.items in
    let net = c.args.net.now in
    let curves = c.args.curves.now in
    let m = length net.arcs in
    let d = c.loop-done.done in
    let are = leveled-curves items g.met.C.Monotone.is_list g.met.C.Monotone.items_within net curves c.requires.passable in
    let level : (level_most - d) + d ≡ level_most = omega (arith, c.loop-done-test.true) in
    record {
      fits = c.settle_all.ensures.fits;
      settled = settled-more items net curves (level_most - d) d c.settle_all.new.work.flows are level c.settle_all.ensures.under_way
          (c.settle_all.ensures.settled c.if-not-settle_all.false);
      potentials = c.settle_all.ensures.potentials ∙ c.double_flows.ensures.same.potentials ∙ c.loop-done.invariant.potentials;
      no_fewer = omega (arith, c.settle_all.ensures.no_fewer, c.loop-done.invariant.no_fewer);
      count = one-more-level net.nodes m (total_violation m (levels_of items (level_most - d) curves) c.double_flows.new.work.flows) d c.args.steps.now
          c.loop-done.steps c.settle_all.new.steps
          (lacks-few items net curves (level_most - d) d c.loop-done.work.flows c.double_flows.new.work.flows are level c.loop-done.invariant.settled
          c.double_flows.ensures.twice)
          c.loop-done.invariant.count (c.settle_all.ensures.count c.if-not-settle_all.false);
    }
