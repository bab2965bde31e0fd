use Rattle.std.proofs.Common.{◌<◌, ℤ, List, length, get_or, subst, to_z-of_z, arith}
use Rattle.theory.specs.declared.ext.Ext.{Ext}
use Rattle.theory.specs.Readings.{IsRange}
use Rattle.theory.specs.Views.{level_items}
use Rattle.kilter_solver.proofs.Bundles.{length-levels, level-of, greatest-most}
use Rattle.kilter_solver.proofs.levels.LevelsBundle.range.Goals as goal

pub returns-clause-range : goal.returns-clause-range
returns-clause-range g c =
    let curves = c.args.self.now.curves.now in
    let items = g.C.Monotone.items in
    let k = c.args.self.now.k in
    let there : c.args.arc.0 < length curves = omega (arith, length-levels items k curves, c.requires.there) in
    subst (λ (list : List Ext). IsRange list c.args.v c.level_range.result.0 c.level_range.result.1)
    (level-of items k curves c.index-self-arc.result c.args.arc.0 there)
    (subst (λ (z : ℤ). IsRange (level_items k (items (get_or curves c.args.arc.0 c.index-self-arc.result))) z c.level_range.result.0 c.level_range.result.1)
    (to_z-of_z c.ranges.v) c.level_range.ensures.range)

pub returns-clause-counted : goal.returns-clause-counted
returns-clause-counted g c =
    let curves = c.args.self.now.curves.now in
    let items = g.C.Monotone.items in
    let k = c.args.self.now.k in
    let there : c.args.arc.0 < length curves = omega (arith, length-levels items k curves, c.requires.there) in
    let most = greatest-most g.C.Monotone.weight curves c.index-self-arc.result c.args.arc.0 there in
    let counted = c.level_range.ensures.counted in
    record { least = counted.least; most = omega (arith, counted.most) }
