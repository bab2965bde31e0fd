use Rattle.std.proofs.Common.{◌<◌, ℤ, List, length, get_or, subst, to_z-of_z, arith}
use Rattle.std.proofs.lemmas.List.{length-map}
use Rattle.theory.specs.declared.ext.Ext.{Ext}
use Rattle.theory.specs.Readings.{IsRange}
use Rattle.kilter_solver.proofs.Bundles.{list-of, greatest-most}
use Rattle.kilter_solver.proofs.bundle.PlainBundle.range.Goals as goal

pub returns-clause-range : goal.returns-clause-range
returns-clause-range g c =
    let curves = c.args.self.now.curves.now in
    let there : c.args.arc.0 < length curves = omega (arith, length-map curves g.C.Monotone.items, c.requires.there) in
    subst (λ (items : List Ext). IsRange items c.args.v c.range_at.result.0 c.range_at.result.1)
    (list-of g.C.Monotone.items curves c.index-self-arc.result c.args.arc.0 there)
    (subst (λ (z : ℤ). IsRange (g.C.Monotone.items (get_or curves c.args.arc.0 c.index-self-arc.result)) z c.range_at.result.0 c.range_at.result.1)
    (to_z-of_z c.ranges.v) c.range_at.ensures.range)

pub returns-clause-counted : goal.returns-clause-counted
returns-clause-counted g c =
    let curves = c.args.self.now.curves.now in
    let there : c.args.arc.0 < length curves = omega (arith, length-map curves g.C.Monotone.items, c.requires.there) in
    let most = greatest-most g.C.Monotone.weight curves c.index-self-arc.result c.args.arc.0 there in
    let counted = c.range_at.ensures.counted in
    record { least = counted.least; most = omega (arith, counted.most) }
