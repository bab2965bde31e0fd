use Rattle.std.proofs.Common.{◌≡◌, ℤ, sym, subst, ◌∙◌, w64, SFits, to_z, of_z, to_z-of_z, rules, arith}
use Rattle.std.proofs.lemmas.Int.{ints}
use Rattle.theory.specs.Network.{«at», list_at}
use Rattle.theory.specs.Conserved.{tension}
use Rattle.net_incidence.specs.Graph.{bare}
use Rattle.kilter_solver.specs.Clamping.{IsClosestFlow}
use Rattle.kilter_solver.proofs.Clamps.{closest-flow}
use Rattle.kilter_solver.proofs.spread.Routing.closest_flow.Goals as goal

pub tension-tension-requires-clause-potentials : goal.tension-tension-requires-clause-potentials
tension-tension-requires-clause-potentials g c = λ i.
    let u = c.requires.ready.potentials i in
    let low = u.0 in
    let high = u.1 in
    (omega (arith, ints), omega (arith, ints))

pub returns-clause-closest : goal.returns-clause-closest
returns-clause-closest g c =
    let items = list_at (g.B.Bundle.lists c.args.self.now.bundle.now) c.args.arc.0 in
    let x = «at» c.args.work.now.flows c.args.arc.0 in
    let v = tension (bare c.args.self.now.net.now) («at» c.args.work.now.potentials) c.args.arc.0 in
    let read_x = to_z w64 (of_z w64 c.flow.result) in
    let read_v = to_z w64 (of_z w64 c.tension-tension.result) in
    let fits_z : SFits w64 c.closest.result = search rules in
    let fits_v : SFits w64 c.tension-tension.result = search rules in
    let fits_x : SFits w64 c.flow.result = search rules in
    let v_is : read_v ≡ v = to_z-of_z fits_v ∙ c.tension-tension.ensures.value in
    let x_is : read_x ≡ x = to_z-of_z fits_x ∙ c.flow.ensures in
    subst (λ (z : ℤ). IsClosestFlow items x v z) (sym (to_z-of_z fits_z))
    (subst (λ (t : ℤ). IsClosestFlow items x t c.closest.result) v_is
    (subst (λ (y : ℤ). IsClosestFlow items y read_v c.closest.result) x_is
    (closest-flow items read_x read_v c.closest.result c.range-low.result.0 c.range-low.result.1 c.range-low.ensures.range c.closest.ensures)))
