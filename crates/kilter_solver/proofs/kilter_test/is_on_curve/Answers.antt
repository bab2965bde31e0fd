-- The slopes that were read are those of the arc's curve at its flow, so the tension that lies between them is on the curve.
use Rattle.std.proofs.Common.{◌≡◌, ◌<◌, ℤ, List, length, map, refl, ap, ◌∙◌, subst, w64, SFits, to_z, of_z, to_z-of_z, arith, rules}
use Rattle.theory.specs.declared.ext.Ext.{Ext}
use Rattle.theory.specs.Readings.{IsUnder, IsOver, IsSlopes}
use Rattle.theory.specs.Network.{«at», list_at}
use Rattle.theory.specs.Conserved.{tension}
use Rattle.net_incidence.specs.Graph.{bare}
use Rattle.kilter_solver.proofs.Bundles.{list-of}
use Rattle.kilter_solver.proofs.kilter_test.is_on_curve.Goals as goal

pub returns-then-is_under-clause-pair : goal.returns-then-is_under-clause-pair
returns-then-is_under-clause-pair g c =
    let curves = c.args.curves.now in
    let items = g.C.Monotone.items in
    let j = c.args.arc.0 in
    let low = c.slopes_at-low.result.0 in
    let high = c.slopes_at-low.result.1 in
    let there : j < length curves = omega (arith, c.requires.passable.one_curve_each) in
    let flow_fits : SFits w64 c.flow.result = search rules in
    let tension_fits : SFits w64 c.tension-tension.result = search rules in
    let level : to_z w64 (of_z w64 c.tension-tension.result) ≡ tension (bare c.args.net.now) («at» c.args.work.now.potentials) j =
    to_z-of_z tension_fits ∙ c.tension-tension.ensures
    ∙ ap (λ (u : List ℤ). tension (bare c.args.net.now) («at» u) j) c.potentials.ensures in
    let slopes : IsSlopes (list_at (map items curves) j) («at» c.args.work.now.flows j) low high =
    subst (λ (l : List Ext). IsSlopes l («at» c.args.work.now.flows j) low high)
    (ap items c.index-curves-arc.is ∙ list-of items curves c.index-curves-arc.result j there)
    (subst (λ (x : ℤ). IsSlopes (items c.index-curves-arc.result) x low high) (to_z-of_z flow_fits ∙ c.flow.ensures) c.slopes_at-low.ensures.slopes) in
    λ yes.
    (slopes.pairs (tension (bare c.args.net.now) («at» c.args.work.now.potentials) j)).1
    (subst (λ (v : ℤ). IsUnder low v) level (c.if-is_under.ensures refl), subst (λ (v : ℤ). IsOver high v) level (c.is_over.ensures yes))
