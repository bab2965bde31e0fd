-- Between the curves with their bases and the items alone.
use Rattle.std.proofs.Common.{ℤ, sym, ap, ◌∙◌, subst, rules, w64, SFits, to_z-of_z}
use Rattle.net_incidence.specs.Graph.{network}
use Rattle.path_cut.specs.GreatestFlow.{IsCutOf}
use Rattle.path_cut.proofs.Same.{flow-to, flow-of, return-to, carries-of, cut_of-of, open_path-of}
use Rattle.path_cut.proofs.flow_found.carried.Goals as goal

pub greatest_flow-requires-clause-returns : goal.greatest_flow-requires-clause-returns
greatest_flow-requires-clause-returns g c =
    let is = ap (network c.net-graph.result.now) c.curves-curves.ensures ∙ c.net-graph.ensures in
    return-to c.net-graph.result.now c.curves-curves.result.now c.args.net.now is c.requires.returns

pub greatest_flow-requires-clause-feasible : goal.greatest_flow-requires-clause-feasible
greatest_flow-requires-clause-feasible g c =
    let is = ap (network c.net-graph.result.now) c.curves-curves.ensures ∙ c.net-graph.ensures in
    flow-to c.net-graph.result.now c.curves-curves.result.now c.args.net.now is c.args.work.now.flows c.requires.feasible

pub keep_greatest-requires-clause-feasible : goal.keep_greatest-requires-clause-feasible
keep_greatest-requires-clause-feasible g c =
    let is = ap (network c.net-graph.result.now) c.curves-curves.ensures ∙ c.net-graph.ensures in
    flow-of c.net-graph.result.now c.curves-curves.result.now c.args.net.now is c.greatest_flow.new.work.flows c.greatest_flow.ensures.feasible

pub keep_greatest-requires-clause-carries : goal.keep_greatest-requires-clause-carries
keep_greatest-requires-clause-carries g c =
    let is = ap (network c.net-graph.result.now) c.curves-curves.ensures ∙ c.net-graph.ensures in
    let fits : SFits w64 c.in-Greatest.flow = search rules in
    carries-of c.net-graph.result.now c.curves-curves.result.now c.args.net.now is c.in-Greatest.flow c.greatest_flow.new.work.flows c.in-Greatest.ensures.answer.0
    ∙ sym (to_z-of_z fits)

pub keep_greatest-requires-clause-cut : goal.keep_greatest-requires-clause-cut
keep_greatest-requires-clause-cut g c =
    let is = ap (network c.net-graph.result.now) c.curves-curves.ensures ∙ c.net-graph.ensures in
    let fits : SFits w64 c.in-Greatest.flow = search rules in
    subst (λ (t : ℤ). IsCutOf c.args.net.now c.greatest_flow.new.work.reached t) (sym (to_z-of_z fits))
    (cut_of-of c.net-graph.result.now c.curves-curves.result.now c.args.net.now is c.greatest_flow.new.work.reached c.in-Greatest.flow
    c.in-Greatest.ensures.answer.1)

pub keep_open-requires-clause-feasible : goal.keep_open-requires-clause-feasible
keep_open-requires-clause-feasible g c =
    let is = ap (network c.net-graph.result.now) c.curves-curves.ensures ∙ c.net-graph.ensures in
    flow-of c.net-graph.result.now c.curves-curves.result.now c.args.net.now is c.greatest_flow.new.work.flows c.greatest_flow.ensures.feasible

pub keep_open-requires-clause-open_path : goal.keep_open-requires-clause-open_path
keep_open-requires-clause-open_path g c =
    let is = ap (network c.net-graph.result.now) c.curves-curves.ensures ∙ c.net-graph.ensures in
    open_path-of c.net-graph.result.now c.curves-curves.result.now c.args.net.now is c.greatest_flow.new.work.walk c.in-Unbounded.ensures.answer.1
