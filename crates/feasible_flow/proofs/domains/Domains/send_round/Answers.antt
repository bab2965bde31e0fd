-- A path closes a circuit over the arc that lacks flow, and what goes round it lowers the violations; without a path the reached nodes
-- are a negative cut.
use Rattle.std.proofs.Common.{◌∷◌, length, ap, ◌∙◌, arith}
use Rattle.std.proofs.lemmas.List.{length-map}
use Rattle.theory.specs.Views.{level_items}
use Rattle.theory.specs.Sent.{sent_round}
use Rattle.feasible_flow.specs.ByLevels.{levels_of, flow_limit}
use Rattle.feasible_flow.proofs.Lists.{level-curves}
use Rattle.feasible_flow.proofs.ViolationFalls.{nearer-sent, need-within}
use Rattle.feasible_flow.proofs.PathClosesCircuit.{closes}
use Rattle.feasible_flow.proofs.CutIsNegative.{negative-cut}
use Rattle.feasible_flow.proofs.domains.Domains.send_round.Goals as goal

pub send_around-requires-clause-amount_near : goal.send_around-requires-clause-amount_near
send_around-requires-clause-amount_near g c =
    let s = c.args.need.step in
    let lists = levels_of g.C.Monotone.items c.args.self.now.level c.args.self.now.curves.now in
    let few = need-within c.args.net.now lists (flow_limit (length c.args.net.now.arcs) c.args.self.now.level) c.args.work.now.flows s.arc.0
    c.args.need.amount c.room_along-amount.result s.forward c.requires.under_way c.requires.there c.requires.need c.room_along-amount.ensures.most in
    omega (arith, few, c.requires.under_way.few)

pub send_around-requires-clause-arcs_differ : goal.send_around-requires-clause-arcs_differ
send_around-requires-clause-arcs_differ g c =
    let k = c.args.self.now.level in
    let s = c.args.need.step in
    (closes c.args.net.now (levels_of g.C.Monotone.items k c.args.self.now.curves.now) c.args.work.now.flows c.search.new.work.walk s
    c.requires.there (omega (arith, c.requires.need.some, c.requires.need.exact))
    (rw (← c.end-from.ensures, ← c.begin-to.ensures) (c.search.ensures.path c.in-Path.is))).arcs_differ

pub returns-in-Cut-clause-cut : goal.returns-in-Cut-clause-cut
returns-in-Cut-clause-cut g c found =
    let curves = c.args.self.now.curves.now in
    let k = c.args.self.now.level in
    let s = c.args.need.step in
    negative-cut c.args.net.now (levels_of g.C.Monotone.items k curves) c.args.work.now.flows c.search.new.work.reached s
    (level-curves g.C.Monotone.items g.met.C.Monotone.is_list g.met.C.Monotone.items_within k curves)
    (length-map curves (λ a. level_items k (g.C.Monotone.items a)) ∙ c.requires.passable.one_curve_each) c.requires.under_way.conserved c.requires.there
    (omega (arith, c.requires.need.some, c.requires.need.exact))
    (rw (← c.end-from.ensures, ← c.begin-to.ensures) (c.search.ensures.cut c.in-Cut.is))

pub returns-in-Path-clause-nearer : goal.returns-in-Path-clause-nearer
returns-in-Path-clause-nearer g c found =
    let curves = c.args.self.now.curves.now in
    let k = c.args.self.now.level in
    let s = c.args.need.step in
    let amount = c.room_along-amount.result in
    let walk = c.search.new.work.walk in
    nearer-sent c.args.net.now (levels_of g.C.Monotone.items k curves) (flow_limit (length c.args.net.now.arcs) k) c.args.work.now.flows
    c.send_around.new.work.flows walk s c.args.need.amount amount c.end-from.result.0 c.begin-to.result.0
    (level-curves g.C.Monotone.items g.met.C.Monotone.is_list g.met.C.Monotone.items_within k curves)
    c.requires.under_way c.requires.there c.requires.need c.end-from.ensures c.begin-to.ensures (c.search.ensures.path c.in-Path.is)
    c.room_along-amount.ensures.some c.room_along-amount.ensures.most
    (rw c.search.ensures.flows at c.room_along-amount.ensures.room)
    (c.send_around.ensures.flows ∙ ap (sent_round amount (s ∷ walk)) c.search.ensures.flows)
