use Rattle.std.proofs.Common.{◌≡◌, ◌<◌, List, length, map, refl, sym, ap, ◌∙◌, arith}
use Rattle.theory.specs.declared.ext.Ext.{Ext}
use Rattle.theory.specs.Network.{curve}
use Rattle.theory.specs.Cut.{holds}
use Rattle.net_incidence.specs.PartOf.{part_of, crossing_end}
use Rattle.net_incidence.proofs.SumParts.{crossing-at}
use Rattle.net_incidence.specs.WithoutBases.{without_bases}
use Rattle.kilter_solver.proofs.Bundles.{list-of}
use Rattle.net_incidence.proofs.WithoutBases.{without_bases-items}
use Rattle.kilter_solver.proofs.cut_test.part_of_arc.Goals as goal

pub returns-clause-value : goal.returns-clause-value
returns-clause-value g c =
    let curves = c.args.curves.now in
    let items = g.C.Monotone.items in
    let lists = map items curves in
    let net = without_bases c.args.net.now lists in
    let side = c.args.work.now.reached in
    let j = c.args.arc.0 in
    let there : j < length curves = omega (arith, c.requires.passable.one_curve_each) in
    let same : items c.index-curves-arc.result ≡ (curve net j).items =
    ap items c.index-curves-arc.is ∙ list-of items curves c.index-curves-arc.result j there ∙ sym (without_bases-items c.args.net.now lists j) in
    c.crossing_part.ensures.value
    ∙ ap (λ (l : List Ext). part_of (crossing_end l c.reached-at_tail.result c.reached-at_head.result)) same
    ∙ ap part_of (crossing-at net side j (curve net j) _ _ refl (c.reached-at_tail.ensures ∙ ap (holds side) c.from.ensures)
    (c.reached-at_head.ensures ∙ ap (holds side) c.to.ensures))
