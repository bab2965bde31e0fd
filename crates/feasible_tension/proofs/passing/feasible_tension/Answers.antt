-- Where no bound is passed, the potentials lie within the limit for each node, and shifted by one number they are feasible.
use Rattle.std.proofs.Common.{map, ◌∙◌}
use Rattle.net_incidence.specs.WithoutBases.{without_bases}
use Rattle.feasible_tension.proofs.Bounded.{bounded}
use Rattle.feasible_tension.proofs.Rounds.{relaxing-start}
use Rattle.feasible_tension.proofs.PotentialBound.{fallen-small, fallen-found}
use Rattle.feasible_tension.proofs.passing.feasible_tension.Goals as goal

pub rounds-requires-clause-relaxing : goal.rounds-requires-clause-relaxing
rounds-requires-clause-relaxing g c =
    relaxing-start (without_bases c.args.net.now (map g.C.Monotone.items c.args.curves.now)) c.begin.new.work c.begin.ensures.zero c.begin.ensures.unlabelled

pub shift-requires : goal.shift-requires
shift-requires g c =
    let net = without_bases c.args.net.now (map g.C.Monotone.items c.args.curves.now) in
    let good = bounded g.C.Monotone.items c.args.net.now c.args.curves.now c.requires.passable.one_curve_each
    g.met.C.Monotone.is_list g.met.C.Monotone.items_within in
    fallen-small net c.rounds.ensures.relaxed.0 c.rounds.new.work good c.rounds.ensures.relaxed.1 (c.rounds.ensures.held c.in-None.is)
    (c.rounds.ensures.kept.nodes ∙ c.begin.ensures.kept.nodes ∙ c.requires.fits.same_nodes)

pub returns-in-None-clause-potential : goal.returns-in-None-clause-potential
returns-in-None-clause-potential g c potential =
    let net = without_bases c.args.net.now (map g.C.Monotone.items c.args.curves.now) in
    let good = bounded g.C.Monotone.items c.args.net.now c.args.curves.now c.requires.passable.one_curve_each
    g.met.C.Monotone.is_list g.met.C.Monotone.items_within in
    (fallen-found net c.rounds.ensures.relaxed.0 c.rounds.new.work c.shift.new.work good c.rounds.ensures.relaxed.1 (c.rounds.ensures.held c.in-None.is)
    (c.rounds.ensures.kept.nodes ∙ c.begin.ensures.kept.nodes ∙ c.requires.fits.same_nodes) c.shift.ensures.kept.nodes c.shift.ensures.shifted).potential

pub returns-in-None-clause-within : goal.returns-in-None-clause-within
returns-in-None-clause-within g c potential =
    let net = without_bases c.args.net.now (map g.C.Monotone.items c.args.curves.now) in
    let good = bounded g.C.Monotone.items c.args.net.now c.args.curves.now c.requires.passable.one_curve_each
    g.met.C.Monotone.is_list g.met.C.Monotone.items_within in
    (fallen-found net c.rounds.ensures.relaxed.0 c.rounds.new.work c.shift.new.work good c.rounds.ensures.relaxed.1 (c.rounds.ensures.held c.in-None.is)
    (c.rounds.ensures.kept.nodes ∙ c.begin.ensures.kept.nodes ∙ c.requires.fits.same_nodes) c.shift.ensures.kept.nodes c.shift.ensures.shifted).within
