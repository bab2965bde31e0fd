-- Each round is one of the circuit that the last arc closes with a path of room. Since a cut bounds what the last arc carries, no flow
-- leaves its range, and there is less left each time.
use Rattle.std.proofs.Common.{◌≡◌, ℕ, ◌*◌, true, List, ◌∷◌, map, sym, ap, ◌∙◌, subst, arith}
use Rattle.std.proofs.lemmas.List.{length-map}
use Rattle.theory.specs.declared.network.Step.{Step}
use Rattle.theory.specs.Limits.{flow_most}
use Rattle.theory.specs.Network.{Network, «at»}
use Rattle.theory.proofs.Bounds.{within_more}
use Rattle.net_incidence.specs.Incidence.{over}
use Rattle.net_incidence.specs.WithoutBases.{without_bases}
use Rattle.net_incidence.proofs.WithoutBases.{without_bases-network}
use Rattle.feasible_flow.proofs.Lists.{are-curves}
use Rattle.theory.specs.Sent.{sent_round}
use Rattle.feasible_flow.specs.Violations.{movable_most, AreNear}
use Rattle.feasible_flow.specs.UnderWay.{ArcsDiffer}
use Rattle.path_cut.specs.GreatestFlow.{return_arc}
use Rattle.path_cut.specs.Augmenting.{IsWay, top_most}
use Rattle.path_cut.proofs.Augmenting.{augmented-within, augmented-more, augmented-falls, round-circuit}
use Rattle.path_cut.proofs.flow.augment.Goals as goal

pub find_room-requires-clause-near : goal.find_room-requires-clause-near
find_room-requires-clause-near g c = λ j.
    within_more (4 * flow_most) movable_most («at» c.loop-amount.work.flows j) (omega arith)
    (augmented-within (without_bases c.args.net.now (map g.C.Monotone.items c.args.curves.now)) c.args.work.now.flows c.loop-amount.work.flows
    c.requires.passable.few_arcs c.requires.near c.requires.bound c.loop-amount.invariant.augmented j)

pub send_around-requires-clause-near : goal.send_around-requires-clause-near
send_around-requires-clause-near g c =
    let near : AreNear movable_most c.loop-amount.work.flows = λ j. (
    within_more (4 * flow_most) movable_most («at» c.loop-amount.work.flows j) (omega arith)
    (augmented-within (without_bases c.args.net.now (map g.C.Monotone.items c.args.curves.now)) c.args.work.now.flows c.loop-amount.work.flows
    c.requires.passable.few_arcs c.requires.near c.requires.bound c.loop-amount.invariant.augmented j)) in
    rw c.find_room.ensures.flows near

pub send_around-requires-clause-arcs_differ : goal.send_around-requires-clause-arcs_differ
send_around-requires-clause-arcs_differ g c =
    let net = c.args.net.now in
    let lists = map g.C.Monotone.items c.args.curves.now in
    let curves = are-curves g.C.Monotone.items g.met.C.Monotone.is_list g.met.C.Monotone.items_within c.args.curves.now in
    let good = without_bases-network net lists curves.are_lists (length-map c.args.curves.now g.C.Monotone.items ∙ c.requires.passable.one_curve_each) in
    let m : ℕ = return_arc (without_bases net lists) in
    let is : c.return_arc-last.result.0 ≡ m = (let e = c.return_arc-last.ensures.number in omega arith) in
    let walk : List Step = c.find_room.new.work.walk in
    subst (λ (j : ℕ). ArcsDiffer (over j true ∷ walk)) (sym is)
    (round-circuit net lists good c.requires.returns c.find_room.new.work.flows walk c.in-Some.amount c.in-Some.ensures.found).arcs_differ

pub loop-amount-smaller : goal.loop-amount-smaller
loop-amount-smaller g c =
    let net = c.args.net.now in
    let lists = map g.C.Monotone.items c.args.curves.now in
    let curves = are-curves g.C.Monotone.items g.met.C.Monotone.is_list g.met.C.Monotone.items_within c.args.curves.now in
    let good = without_bases-network net lists curves.are_lists (length-map c.args.curves.now g.C.Monotone.items ∙ c.requires.passable.one_curve_each) in
    let network : Network = without_bases net lists in
    let m : ℕ = return_arc network in
    let is : c.return_arc-last.result.0 ≡ m = (let e = c.return_arc-last.ensures.number in omega arith) in
    let walk : List Step = c.find_room.new.work.walk in
    let amount = c.in-Some.amount in
    let way : IsWay network lists c.loop-amount.work.flows walk amount = rw c.find_room.ensures.flows at c.in-Some.ensures.found in
    augmented-falls net lists good c.requires.returns c.args.work.now.flows c.loop-amount.work.flows c.send_around.new.work.flows walk amount
    (top_most network) way c.loop-amount.invariant.augmented c.requires.bound
    (c.send_around.ensures.flows ∙ ap (λ (j : ℕ). sent_round amount (over j true ∷ walk) c.find_room.new.work.flows) is
    ∙ ap (sent_round amount (over m true ∷ walk)) c.find_room.ensures.flows)

pub loop-amount-preserved : goal.loop-amount-preserved
loop-amount-preserved g c =
    let net = c.args.net.now in
    let lists = map g.C.Monotone.items c.args.curves.now in
    let curves = are-curves g.C.Monotone.items g.met.C.Monotone.is_list g.met.C.Monotone.items_within c.args.curves.now in
    let good = without_bases-network net lists curves.are_lists (length-map c.args.curves.now g.C.Monotone.items ∙ c.requires.passable.one_curve_each) in
    let network : Network = without_bases net lists in
    let m : ℕ = return_arc network in
    let is : c.return_arc-last.result.0 ≡ m = (let e = c.return_arc-last.ensures.number in omega arith) in
    let walk : List Step = c.find_room.new.work.walk in
    let amount = c.in-Some.amount in
    let way : IsWay network lists c.loop-amount.work.flows walk amount = rw c.find_room.ensures.flows at c.in-Some.ensures.found in
    let same = c.send_around.ensures.same in
    record {
      fits = record {
        same_nodes = same.nodes ∙ c.find_room.ensures.fits.same_nodes;
        same_arcs = same.arcs ∙ c.find_room.ensures.fits.same_arcs;
      };
      augmented =
          augmented-more net lists good c.requires.returns c.args.work.now.flows c.loop-amount.work.flows c.send_around.new.work.flows walk amount
          way c.loop-amount.invariant.augmented
          (c.send_around.ensures.flows ∙ ap (λ (j : ℕ). sent_round amount (over j true ∷ walk) c.find_room.new.work.flows) is
          ∙ ap (sent_round amount (over m true ∷ walk)) c.find_room.ensures.flows);
      potentials = same.potentials ∙ c.find_room.ensures.potentials ∙ c.loop-amount.invariant.potentials;
      no_fewer = omega (arith, c.loop-amount.invariant.no_fewer, c.find_room.ensures.no_fewer);
    }
