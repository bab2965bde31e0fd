-- A place of a round has an arc, and the arc's place is that: so after k places just the arcs at these are examined. After the last
-- one all are, so the round is over, and every bound holds if it lowered no node. Numbers stay small since each examined arc lowers a
-- potential by one span end at most.
use Rattle.std.proofs.Common.{◌≡◌, ◌<◌, ◌+◌, map, length, sym, ap, ◌∙◌, subst, arith}
use Rattle.net_incidence.specs.WithoutBases.{without_bases}
use Rattle.feasible_tension.specs.Relaxing.{place, IsRelaxing}
use Rattle.feasible_tension.proofs.Bounded.{bounded}
use Rattle.feasible_tension.proofs.Lowering.{place-place, place-there, relaxing-more}
use Rattle.feasible_tension.proofs.Rounds.{relaxing-next, relaxing-small, all-held, deep-if_some}
use Rattle.feasible_tension.proofs.Examining.{kept-more, examined-kept}
use Rattle.feasible_tension.proofs.relaxing.Spans.round.Goals as goal

pub examine-requires-clause-small : goal.examine-requires-clause-small
examine-requires-clause-small g c =
    relaxing-small (without_bases c.args.self.now.net.now (map g.C.Monotone.items c.args.self.now.curves.now)) c.args.round c.loop-k.k c.args.self.now.net.now.nodes
    c.loop-k.changed c.loop-k.work c.loop-k.invariant.relaxing c.requires.few (omega arith)
    c.requires.passable.few_nodes c.requires.passable.few_arcs

pub loop-k-preserved : goal.loop-k-preserved
loop-k-preserved g c =
    let net = without_bases c.args.self.now.net.now (map g.C.Monotone.items c.args.self.now.curves.now) in
    let good = bounded g.C.Monotone.items c.args.self.now.net.now c.args.self.now.curves.now c.requires.passable.one_curve_each
    g.met.C.Monotone.is_list g.met.C.Monotone.items_within in
    let arcs : c.arcs-arcs.result ≡ length net.arcs = c.arcs-arcs.ensures in
    let few : c.loop-k.k < length net.arcs = omega arith in
    let at_place : c.place.result ≡ place c.args.round (length net.arcs) c.loop-k.k =
    c.place.ensures ∙ ap (λ m. place c.args.round m c.loop-k.k) arcs in
    let there = subst (λ j. j < length net.arcs) (sym at_place) (place-there c.args.round (length net.arcs) c.loop-k.k few) in
    let turn = ap (place c.args.round (length net.arcs)) at_place ∙ place-place c.args.round (length net.arcs) c.loop-k.k few in
    let more = relaxing-more net c.args.round c.loop-k.k c.place.result c.loop-k.changed c.examine.result c.loop-k.work c.examine.new.work good
    c.loop-k.invariant.relaxing (c.loop-k.invariant.kept.nodes ∙ c.requires.fits.same_nodes) there few turn c.examine.ensures.examined in
    record {
      relaxing = subst (λ changed. IsRelaxing net c.args.round (c.loop-k.k + 1) changed c.examine.new.work) (sym c.or-changed.ensures) more;
      kept = kept-more c.args.work.now c.loop-k.work c.examine.new.work c.loop-k.invariant.kept
          (examined-kept net _ c.loop-k.work c.examine.new.work c.examine.result c.examine.ensures.examined);
      no_fewer = omega (arith, c.loop-k.invariant.no_fewer, c.examine.ensures.no_fewer);
      count = omega (arith, c.loop-k.invariant.count, c.examine.ensures.count);
    }

pub returns-clause-deep : goal.returns-clause-deep
returns-clause-deep g c =
    let net = without_bases c.args.self.now.net.now (map g.C.Monotone.items c.args.self.now.curves.now) in
    let all : c.loop-k.k ≡ length c.args.self.now.net.now.arcs = omega arith in
    let whole : IsRelaxing net c.args.round (length net.arcs) c.loop-k.changed c.loop-k.work =
    subst (λ k. IsRelaxing net c.args.round k c.loop-k.changed c.loop-k.work) all c.loop-k.invariant.relaxing in
    deep-if_some net c.args.round c.loop-k.changed c.loop-k.work whole

pub returns-clause-relaxing : goal.returns-clause-relaxing
returns-clause-relaxing g c =
    let net = without_bases c.args.self.now.net.now (map g.C.Monotone.items c.args.self.now.curves.now) in
    let all : c.loop-k.k ≡ length c.args.self.now.net.now.arcs = omega arith in
    let whole : IsRelaxing net c.args.round (length net.arcs) c.loop-k.changed c.loop-k.work =
    subst (λ k. IsRelaxing net c.args.round k c.loop-k.changed c.loop-k.work) all c.loop-k.invariant.relaxing in
    relaxing-next net c.args.round c.loop-k.changed c.loop-k.work whole

pub returns-clause-held : goal.returns-clause-held
returns-clause-held g c none =
    let net = without_bases c.args.self.now.net.now (map g.C.Monotone.items c.args.self.now.curves.now) in
    let all : c.loop-k.k ≡ length c.args.self.now.net.now.arcs = omega arith in
    let whole : IsRelaxing net c.args.round (length net.arcs) c.loop-k.changed c.loop-k.work =
    subst (λ k. IsRelaxing net c.args.round k c.loop-k.changed c.loop-k.work) all c.loop-k.invariant.relaxing in
    all-held net c.args.round c.loop-k.changed c.loop-k.work whole none
