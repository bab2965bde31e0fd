-- At each turn the potentials are risen from those at the beginning, so they are near 0; the set that is reached lacks fewer nodes than
-- before, which pays for the search and the look at all arcs.
use Rattle.std.proofs.Common.{◌+◌, ◌*◌, length, map, rules, w64, SFits, to_z-of_z, ap, ◌∙◌, arith}
use Rattle.std.proofs.lemmas.List.{length-map}
use Rattle.std.proofs.Math.Nat.{mul-le-mul_right}
use Rattle.theory.specs.Limits.{number_most}
use Rattle.net_incidence.specs.WithoutBases.{without_bases}
use Rattle.net_incidence.proofs.WithoutBases.{without_bases-network}
use Rattle.feasible_flow.proofs.Lists.{are-curves}
use Rattle.path_cut.specs.GreatestTension.{rise}
use Rattle.path_cut.specs.Climbing.{lacked}
use Rattle.path_cut.proofs.Lifting.{IsLifted}
use Rattle.path_cut.proofs.Climbing.{within-small, near-within, risen-within, risen-more, room-most, answered, open-is, climbing-begun, climbing-more, lacked-more, lacked-most, lacked-some}
use Rattle.path_cut.proofs.tension.greatest_tension.Goals as goal

-- ---- before the loop

pub risen-requires-clause-small : goal.risen-requires-clause-small
risen-requires-clause-small g c =
    rw c.search.ensures.potentials
    (within-small c.args.net.now.nodes c.args.work.now.potentials c.requires.passable.few_nodes c.requires.feasible.one_each
    (near-within c.args.net.now.nodes c.args.work.now.potentials c.requires.near))

pub returns-in-Path-clause-answer : goal.returns-in-Path-clause-answer
returns-in-Path-clause-answer g c =
    let net = c.args.net.now in
    let lists = map g.C.Monotone.items c.args.curves.now in
    let curves = are-curves g.C.Monotone.items g.met.C.Monotone.is_list g.met.C.Monotone.items_within c.args.curves.now in
    let good = without_bases-network net lists curves.are_lists (length-map c.args.curves.now g.C.Monotone.items ∙ c.requires.passable.one_curve_each) in
    let fits : SFits w64 c.risen.result = search rules in
    let is = to_z-of_z fits ∙ c.risen.ensures ∙ ap (λ u. rise u c.args.from.0 c.args.to.0) c.search.ensures.potentials in
    rw c.search.ensures.potentials
    (answered net lists curves good c.args.work.now.potentials c.search.new.work.walk c.args.from.0 c.args.to.0 _ is c.requires.feasible
    (c.search.ensures.path c.in-Path.is))

pub loop-room-init : goal.loop-room-init
loop-room-init g c =
    let net = c.args.net.now in
    let lists = map g.C.Monotone.items c.args.curves.now in
    let curves = are-curves g.C.Monotone.items g.met.C.Monotone.is_list g.met.C.Monotone.items_within c.args.curves.now in
    let good = without_bases-network net lists curves.are_lists (length-map c.args.curves.now g.C.Monotone.items ∙ c.requires.passable.one_curve_each) in
    let m = length net.arcs in
    let fewer = mul-le-mul_right {m = lacked net.nodes c.search.new.work.reached} {n = net.nodes} m (lacked-most net.nodes c.search.new.work.reached) in
    record {
      fits = c.search.ensures.fits;
      climbing =
          climbing-begun net lists curves good c.args.from.0 c.args.to.0 c.args.work.now.potentials c.search.new.work c.requires.feasible
          c.search.ensures.potentials (c.search.ensures.cut c.in-Cut.is) (c.search.ensures.grown c.in-Cut.is) (c.search.ensures.short c.in-Cut.is);
      flows = c.search.ensures.flows;
      no_fewer = c.search.ensures.no_fewer;
      count = let spent = c.search.ensures.count in omega (arith, fewer);
    }

-- ---- at the head of the loop

pub least_slack-requires-clause-priced : goal.least_slack-requires-clause-priced
least_slack-requires-clause-priced g c =
    let net = c.args.net.now in
    let lists = map g.C.Monotone.items c.args.curves.now in
    let curves = are-curves g.C.Monotone.items g.met.C.Monotone.is_list g.met.C.Monotone.items_within c.args.curves.now in
    let good = without_bases-network net lists curves.are_lists (length-map c.args.curves.now g.C.Monotone.items ∙ c.requires.passable.one_curve_each) in
    let v = c.loop-room.work in
    let fits = c.loop-room.invariant.fits in
    let one_each = v.sized.one_potential_each ∙ fits.same_nodes in
    record {
      one_curve_each = c.requires.passable.one_curve_each;
      one_flow_each = v.sized.one_flow_each ∙ fits.same_arcs;
      one_each = one_each;
      small =
          within-small net.nodes v.potentials c.requires.passable.few_nodes one_each
          (risen-within net lists curves good c.args.from.0 c.args.work.now.potentials v.potentials v.reached c.requires.passable.some_node
          c.requires.feasible c.requires.near c.loop-room.invariant.climbing.risen);
    }

pub raise-requires-clause-small : goal.raise-requires-clause-small
raise-requires-clause-small g c =
    let net = c.args.net.now in
    let lists = map g.C.Monotone.items c.args.curves.now in
    let curves = are-curves g.C.Monotone.items g.met.C.Monotone.is_list g.met.C.Monotone.items_within c.args.curves.now in
    let good = without_bases-network net lists curves.are_lists (length-map c.args.curves.now g.C.Monotone.items ∙ c.requires.passable.one_curve_each) in
    let v = c.loop-room.work in
    within-small net.nodes v.potentials c.requires.passable.few_nodes (v.sized.one_potential_each ∙ c.loop-room.invariant.fits.same_nodes)
    (risen-within net lists curves good c.args.from.0 c.args.work.now.potentials v.potentials v.reached c.requires.passable.some_node
    c.requires.feasible c.requires.near c.loop-room.invariant.climbing.risen)

pub raise-requires-clause-few : goal.raise-requires-clause-few
raise-requires-clause-few g c =
    let net = c.args.net.now in
    let lists = map g.C.Monotone.items c.args.curves.now in
    let curves = are-curves g.C.Monotone.items g.met.C.Monotone.is_list g.met.C.Monotone.items_within c.args.curves.now in
    let good = without_bases-network net lists curves.are_lists (length-map c.args.curves.now g.C.Monotone.items ∙ c.requires.passable.one_curve_each) in
    let v = c.loop-room.work in
    let few = c.requires.passable.few_nodes in
    let most = room-most net lists curves good v.potentials v.reached (4 * (net.nodes * number_most)) c.in-Some.room
    (risen-within net lists curves good c.args.from.0 c.args.work.now.potentials v.potentials v.reached c.requires.passable.some_node
    c.requires.feasible c.requires.near c.loop-room.invariant.climbing.risen)
    c.in-Some.ensures.least in
    omega (arith, most, few)

-- ---- after a lifting

pub search-requires-in-Some-clause-ready : goal.search-requires-in-Some-clause-ready
search-requires-in-Some-clause-ready g c =
    let net = c.args.net.now in
    let lists = map g.C.Monotone.items c.args.curves.now in
    let curves = are-curves g.C.Monotone.items g.met.C.Monotone.is_list g.met.C.Monotone.items_within c.args.curves.now in
    let good = without_bases-network net lists curves.are_lists (length-map c.args.curves.now g.C.Monotone.items ∙ c.requires.passable.one_curve_each) in
    let v = c.loop-room.work in
    let u = c.raise.new.work.potentials in
    let room = c.in-Some.room in
    let fits = c.loop-room.invariant.fits in
    let climbing = c.loop-room.invariant.climbing in
    let lifts : IsLifted (without_bases net lists) room v.reached v.potentials u =
    record {
      one_each = c.raise.new.work.sized.one_potential_each ∙ c.raise.ensures.same.nodes ∙ fits.same_nodes;
      lifts = λ i l. c.raise.ensures.lifts i (omega (arith, l, fits.same_nodes));
    } in
    let risen = risen-more net lists curves good c.args.from.0 c.args.to.0 c.args.work.now.potentials u v room c.requires.passable.some_node
    c.requires.from_there c.requires.near climbing c.in-Some.ensures.least lifts in
    let within = risen-within net lists curves good c.args.from.0 c.args.work.now.potentials u v.reached c.requires.passable.some_node
    c.requires.feasible c.requires.near risen in (
      record {
        one_curve_each = c.requires.passable.one_curve_each;
        one_flow_each = c.raise.new.work.sized.one_flow_each ∙ c.raise.ensures.same.arcs ∙ fits.same_arcs;
        one_each = lifts.one_each;
        small = within-small net.nodes u c.requires.passable.few_nodes lifts.one_each within;
      },
      c.requires.light,
    )

pub risen-requires-in-Path-search-clause-small : goal.risen-requires-in-Path-search-clause-small
risen-requires-in-Path-search-clause-small g c =
    let net = c.args.net.now in
    let lists = map g.C.Monotone.items c.args.curves.now in
    let curves = are-curves g.C.Monotone.items g.met.C.Monotone.is_list g.met.C.Monotone.items_within c.args.curves.now in
    let good = without_bases-network net lists curves.are_lists (length-map c.args.curves.now g.C.Monotone.items ∙ c.requires.passable.one_curve_each) in
    let v = c.loop-room.work in
    let u = c.raise.new.work.potentials in
    let room = c.in-Some.room in
    let fits = c.loop-room.invariant.fits in
    let climbing = c.loop-room.invariant.climbing in
    let lifts : IsLifted (without_bases net lists) room v.reached v.potentials u =
    record {
      one_each = c.raise.new.work.sized.one_potential_each ∙ c.raise.ensures.same.nodes ∙ fits.same_nodes;
      lifts = λ i l. c.raise.ensures.lifts i (omega (arith, l, fits.same_nodes));
    } in
    let risen = risen-more net lists curves good c.args.from.0 c.args.to.0 c.args.work.now.potentials u v room c.requires.passable.some_node
    c.requires.from_there c.requires.near climbing c.in-Some.ensures.least lifts in
    let within = risen-within net lists curves good c.args.from.0 c.args.work.now.potentials u v.reached c.requires.passable.some_node
    c.requires.feasible c.requires.near risen in
    rw c.search-in-Some.ensures.potentials (within-small net.nodes u c.requires.passable.few_nodes lifts.one_each within)

pub returns-in-Path-search-clause-answer : goal.returns-in-Path-search-clause-answer
returns-in-Path-search-clause-answer g c =
    let net = c.args.net.now in
    let lists = map g.C.Monotone.items c.args.curves.now in
    let curves = are-curves g.C.Monotone.items g.met.C.Monotone.is_list g.met.C.Monotone.items_within c.args.curves.now in
    let good = without_bases-network net lists curves.are_lists (length-map c.args.curves.now g.C.Monotone.items ∙ c.requires.passable.one_curve_each) in
    let v = c.loop-room.work in
    let u = c.raise.new.work.potentials in
    let room = c.in-Some.room in
    let fits = c.loop-room.invariant.fits in
    let climbing = c.loop-room.invariant.climbing in
    let lifts : IsLifted (without_bases net lists) room v.reached v.potentials u =
    record {
      one_each = c.raise.new.work.sized.one_potential_each ∙ c.raise.ensures.same.nodes ∙ fits.same_nodes;
      lifts = λ i l. c.raise.ensures.lifts i (omega (arith, l, fits.same_nodes));
    } in
    let risen = risen-more net lists curves good c.args.from.0 c.args.to.0 c.args.work.now.potentials u v room c.requires.passable.some_node
    c.requires.from_there c.requires.near climbing c.in-Some.ensures.least lifts in
    let small : SFits w64 c.risen-in-Path-search.result = search rules in
    let is = to_z-of_z small ∙ c.risen-in-Path-search.ensures ∙ ap (λ w. rise w c.args.from.0 c.args.to.0) c.search-in-Some.ensures.potentials in
    rw c.search-in-Some.ensures.potentials
    (answered net lists curves good u c.search-in-Some.new.work.walk c.args.from.0 c.args.to.0 _ is risen.feasible
    (c.search-in-Some.ensures.path c.in-Path-search.is))

pub returns-in-Path-search-clause-feasible : goal.returns-in-Path-search-clause-feasible
returns-in-Path-search-clause-feasible g c =
    let net = c.args.net.now in
    let lists = map g.C.Monotone.items c.args.curves.now in
    let curves = are-curves g.C.Monotone.items g.met.C.Monotone.is_list g.met.C.Monotone.items_within c.args.curves.now in
    let good = without_bases-network net lists curves.are_lists (length-map c.args.curves.now g.C.Monotone.items ∙ c.requires.passable.one_curve_each) in
    let v = c.loop-room.work in
    let u = c.raise.new.work.potentials in
    let room = c.in-Some.room in
    let fits = c.loop-room.invariant.fits in
    let climbing = c.loop-room.invariant.climbing in
    let lifts : IsLifted (without_bases net lists) room v.reached v.potentials u =
    record {
      one_each = c.raise.new.work.sized.one_potential_each ∙ c.raise.ensures.same.nodes ∙ fits.same_nodes;
      lifts = λ i l. c.raise.ensures.lifts i (omega (arith, l, fits.same_nodes));
    } in
    let risen = risen-more net lists curves good c.args.from.0 c.args.to.0 c.args.work.now.potentials u v room c.requires.passable.some_node
    c.requires.from_there c.requires.near climbing c.in-Some.ensures.least lifts in
    rw c.search-in-Some.ensures.potentials risen.feasible

pub returns-in-Path-search-clause-within : goal.returns-in-Path-search-clause-within
returns-in-Path-search-clause-within g c =
    let net = c.args.net.now in
    let lists = map g.C.Monotone.items c.args.curves.now in
    let curves = are-curves g.C.Monotone.items g.met.C.Monotone.is_list g.met.C.Monotone.items_within c.args.curves.now in
    let good = without_bases-network net lists curves.are_lists (length-map c.args.curves.now g.C.Monotone.items ∙ c.requires.passable.one_curve_each) in
    let v = c.loop-room.work in
    let u = c.raise.new.work.potentials in
    let room = c.in-Some.room in
    let fits = c.loop-room.invariant.fits in
    let climbing = c.loop-room.invariant.climbing in
    let lifts : IsLifted (without_bases net lists) room v.reached v.potentials u =
    record {
      one_each = c.raise.new.work.sized.one_potential_each ∙ c.raise.ensures.same.nodes ∙ fits.same_nodes;
      lifts = λ i l. c.raise.ensures.lifts i (omega (arith, l, fits.same_nodes));
    } in
    let risen = risen-more net lists curves good c.args.from.0 c.args.to.0 c.args.work.now.potentials u v room c.requires.passable.some_node
    c.requires.from_there c.requires.near climbing c.in-Some.ensures.least lifts in
    let within = risen-within net lists curves good c.args.from.0 c.args.work.now.potentials u v.reached c.requires.passable.some_node
    c.requires.feasible c.requires.near risen in
    rw c.search-in-Some.ensures.potentials within

pub returns-in-Path-search-clause-count : goal.returns-in-Path-search-clause-count
returns-in-Path-search-clause-count g c =
    let n = c.args.net.now.nodes in
    let m = length c.args.net.now.arcs in
    let a = lacked n c.loop-room.work.reached in
    let some = lacked-some n c.args.to.0 c.loop-room.work.reached c.requires.to_there c.loop-room.invariant.climbing.parted.lacks_to in
    let one = mul-le-mul_right {m = 1} {n = a} m some in
    let before = c.loop-room.invariant.count in
    let looked = c.least_slack.ensures.count in
    let searched = c.search-in-Some.ensures.count in
    omega (arith, one, before, looked, searched)

pub loop-room-smaller : goal.loop-room-smaller
loop-room-smaller g c =
    let net = c.args.net.now in
    let lists = map g.C.Monotone.items c.args.curves.now in
    let curves = are-curves g.C.Monotone.items g.met.C.Monotone.is_list g.met.C.Monotone.items_within c.args.curves.now in
    let good = without_bases-network net lists curves.are_lists (length-map c.args.curves.now g.C.Monotone.items ∙ c.requires.passable.one_curve_each) in
    let v = c.loop-room.work in
    let u = c.raise.new.work.potentials in
    let room = c.in-Some.room in
    let fits = c.loop-room.invariant.fits in
    let climbing = c.loop-room.invariant.climbing in
    let lifts : IsLifted (without_bases net lists) room v.reached v.potentials u =
    record {
      one_each = c.raise.new.work.sized.one_potential_each ∙ c.raise.ensures.same.nodes ∙ fits.same_nodes;
      lifts = λ i l. c.raise.ensures.lifts i (omega (arith, l, fits.same_nodes));
    } in
    let falls = lacked-more net lists curves good c.args.from.0 c.args.to.0 room c.args.work.now.potentials u v c.search-in-Some.new.work climbing
    c.in-Some.ensures.least lifts (c.search-in-Some.ensures.cut c.in-Cut-search.is) in
    omega (arith, falls)

pub loop-room-preserved : goal.loop-room-preserved
loop-room-preserved g c =
    let net = c.args.net.now in
    let lists = map g.C.Monotone.items c.args.curves.now in
    let curves = are-curves g.C.Monotone.items g.met.C.Monotone.is_list g.met.C.Monotone.items_within c.args.curves.now in
    let good = without_bases-network net lists curves.are_lists (length-map c.args.curves.now g.C.Monotone.items ∙ c.requires.passable.one_curve_each) in
    let v = c.loop-room.work in
    let u = c.raise.new.work.potentials in
    let room = c.in-Some.room in
    let fits = c.loop-room.invariant.fits in
    let climbing = c.loop-room.invariant.climbing in
    let lifts : IsLifted (without_bases net lists) room v.reached v.potentials u =
    record {
      one_each = c.raise.new.work.sized.one_potential_each ∙ c.raise.ensures.same.nodes ∙ fits.same_nodes;
      lifts = λ i l. c.raise.ensures.lifts i (omega (arith, l, fits.same_nodes));
    } in
    let m = length net.arcs in
    let w = c.search-in-Some.new.work in
    let falls = lacked-more net lists curves good c.args.from.0 c.args.to.0 room c.args.work.now.potentials u v w climbing
    c.in-Some.ensures.least lifts (c.search-in-Some.ensures.cut c.in-Cut-search.is) in
    let fewer = mul-le-mul_right {m = lacked net.nodes w.reached + 1} {n = lacked net.nodes v.reached} m falls in
    let before = c.loop-room.invariant.count in
    let looked = c.least_slack.ensures.count in
    let searched = c.search-in-Some.ensures.count in
    record {
      fits = c.search-in-Some.ensures.fits;
      climbing =
          climbing-more net lists curves good c.args.from.0 c.args.to.0 c.args.work.now.potentials u v w room c.requires.passable.some_node
          c.requires.from_there c.requires.near climbing c.in-Some.ensures.least lifts c.search-in-Some.ensures.potentials
          (c.search-in-Some.ensures.cut c.in-Cut-search.is) (c.search-in-Some.ensures.grown c.in-Cut-search.is)
          (c.search-in-Some.ensures.short c.in-Cut-search.is);
      flows = c.search-in-Some.ensures.flows ∙ c.raise.ensures.same.flows ∙ c.loop-room.invariant.flows;
      no_fewer = omega (arith, c.loop-room.invariant.no_fewer, c.least_slack.ensures.no_fewer, c.search-in-Some.ensures.no_fewer);
      count = omega (arith, fewer, before, looked, searched);
    }

-- ---- after the loop

pub returns-clause-answer : goal.returns-clause-answer
returns-clause-answer g c =
    let net = c.args.net.now in
    let lists = map g.C.Monotone.items c.args.curves.now in
    let curves = are-curves g.C.Monotone.items g.met.C.Monotone.is_list g.met.C.Monotone.items_within c.args.curves.now in
    let good = without_bases-network net lists curves.are_lists (length-map c.args.curves.now g.C.Monotone.items ∙ c.requires.passable.one_curve_each) in
    let v = c.loop-room.work in
    open-is net lists curves good v.potentials v.reached c.args.from.0 c.args.to.0 c.loop-room.invariant.climbing.parted c.in_default.ensures.least

pub returns-clause-within : goal.returns-clause-within
returns-clause-within g c =
    let net = c.args.net.now in
    let lists = map g.C.Monotone.items c.args.curves.now in
    let curves = are-curves g.C.Monotone.items g.met.C.Monotone.is_list g.met.C.Monotone.items_within c.args.curves.now in
    let good = without_bases-network net lists curves.are_lists (length-map c.args.curves.now g.C.Monotone.items ∙ c.requires.passable.one_curve_each) in
    let v = c.loop-room.work in
    risen-within net lists curves good c.args.from.0 c.args.work.now.potentials v.potentials v.reached c.requires.passable.some_node
    c.requires.feasible c.requires.near c.loop-room.invariant.climbing.risen
