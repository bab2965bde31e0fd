use Rattle.std.proofs.Common.{◌<◌, ℤ, List, length, get_or, subst, to_z-of_z, arith}
use Rattle.std.proofs.lemmas.List.{length-map}
use Rattle.theory.specs.declared.ext.Ext.{Ext}
use Rattle.theory.specs.Readings.{IsSlopes}
use Rattle.kilter_solver.proofs.Bundles.{list-of, greatest-most}
use Rattle.kilter_solver.proofs.bundle.PlainBundle.slopes.Goals as goal

pub returns-clause-slopes : goal.returns-clause-slopes
returns-clause-slopes g c =
    let curves = c.args.self.now.curves.now in
    let there : c.args.arc.0 < length curves = omega (arith, length-map curves g.C.Monotone.items, c.requires.there) in
    subst (λ (items : List Ext). IsSlopes items c.args.x c.slopes_at.result.0 c.slopes_at.result.1)
    (list-of g.C.Monotone.items curves c.index-self-arc.result c.args.arc.0 there)
    (subst (λ (z : ℤ). IsSlopes (g.C.Monotone.items (get_or curves c.args.arc.0 c.index-self-arc.result)) z c.slopes_at.result.0 c.slopes_at.result.1)
    (to_z-of_z c.ranges.x) c.slopes_at.ensures.slopes)

pub returns-clause-counted : goal.returns-clause-counted
returns-clause-counted g c =
    let curves = c.args.self.now.curves.now in
    let there : c.args.arc.0 < length curves = omega (arith, length-map curves g.C.Monotone.items, c.requires.there) in
    let most = greatest-most g.C.Monotone.weight curves c.index-self-arc.result c.args.arc.0 there in
    let counted = c.slopes_at.ensures.counted in
    record { least = counted.least; most = omega (arith, counted.most) }
