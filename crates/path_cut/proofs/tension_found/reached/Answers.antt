-- Between the curves with their bases and the items alone.
use Rattle.std.proofs.Common.{ℤ, sym, ap, ◌∙◌, subst, rules, w64, SFits, to_z-of_z}
use Rattle.net_incidence.specs.Graph.{network}
use Rattle.path_cut.specs.GreatestTension.{IsPathOf}
use Rattle.path_cut.proofs.Same.{potential-to, potential-of, path_of-of, open_cut-of}
use Rattle.path_cut.proofs.tension_found.reached.Goals as goal

pub greatest_tension-requires-clause-feasible : goal.greatest_tension-requires-clause-feasible
greatest_tension-requires-clause-feasible g c =
    let is = ap (network c.net-net.result.now) c.curves-curves.ensures ∙ c.net-net.ensures in
    potential-to c.net-net.result.now c.curves-curves.result.now c.args.g.now.network is c.args.work.now.potentials c.requires.feasible

pub keep_greatest-requires-clause-feasible : goal.keep_greatest-requires-clause-feasible
keep_greatest-requires-clause-feasible g c =
    let is = ap (network c.net-net.result.now) c.curves-curves.ensures ∙ c.net-net.ensures in
    potential-of c.net-net.result.now c.curves-curves.result.now c.args.g.now.network is c.greatest_tension.new.work.potentials c.greatest_tension.ensures.feasible

pub keep_greatest-requires-clause-path : goal.keep_greatest-requires-clause-path
keep_greatest-requires-clause-path g c =
    let is = ap (network c.net-net.result.now) c.curves-curves.ensures ∙ c.net-net.ensures in
    let fits : SFits w64 c.in-Greatest.tension = search rules in
    subst (λ (t : ℤ). IsPathOf c.args.g.now.network c.greatest_tension.new.work.walk c.args.from.0 c.args.to.0 t) (sym (to_z-of_z fits))
    (path_of-of c.net-net.result.now c.curves-curves.result.now c.args.g.now.network is c.greatest_tension.new.work.walk c.args.from.0 c.args.to.0
    c.in-Greatest.tension c.in-Greatest.ensures.answer.1)

pub keep_open-requires-clause-feasible : goal.keep_open-requires-clause-feasible
keep_open-requires-clause-feasible g c =
    let is = ap (network c.net-net.result.now) c.curves-curves.ensures ∙ c.net-net.ensures in
    potential-of c.net-net.result.now c.curves-curves.result.now c.args.g.now.network is c.greatest_tension.new.work.potentials c.greatest_tension.ensures.feasible

pub keep_open-requires-clause-open_cut : goal.keep_open-requires-clause-open_cut
keep_open-requires-clause-open_cut g c =
    let is = ap (network c.net-net.result.now) c.curves-curves.ensures ∙ c.net-net.ensures in
    open_cut-of c.net-net.result.now c.curves-curves.result.now c.args.g.now.network is c.greatest_tension.new.work.reached c.args.from.0 c.args.to.0 c.in-Unbounded.ensures.answer
