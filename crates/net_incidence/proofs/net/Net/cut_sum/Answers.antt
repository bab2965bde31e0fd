use Rattle.std.proofs.Common.{◌≡◌, ◌∙◌, map, ap, below_more, Some, arith}
use Rattle.std.proofs.lemmas.Int.{ints}
use Rattle.theory.specs.Ends.{whole}
use Rattle.theory.specs.Cut.{holds, cut_end}
use Rattle.net_incidence.specs.Graph.{network}
use Rattle.net_incidence.specs.PartOf.{part_of}
use Rattle.net_incidence.proofs.SumParts.{part-finite, part-whole, curve-of, crossing-at, sum_below-more}
use Rattle.net_incidence.proofs.net.Net.cut_sum.Goals as goal

pub loop-j-preserved : goal.loop-j-preserved
loop-j-preserved g c =
    let net = network c.args.self.now (map g.C.Listed.listing c.args.curves.now) in
    let side = c.args.side.now in
    let j = c.loop-j.j in
    let curve_is = curve-of g.C.Listed.listing c.args.self.now c.args.curves.now c.index-curves-arc.result j
    (omega (arith, c.requires.one_curve_each)) c.index-curves-arc.is in
    let part : Some c.in-Some.part ≡ part_of (cut_end net side j) =
    c.in-Some.ensures.value
    ∙ ap part_of (crossing-at net side j (g.C.Listed.listing c.index-curves-arc.result) _ _ curve_is
    (ap (holds side) c.from.ensures) (ap (holds side) c.to.ensures)) in
    record {
      finite = below_more _ _ c.loop-j.invariant.finite (part-finite (cut_end net side j) c.in-Some.part part);
      total = sum_below-more j (λ k. whole (cut_end net side k)) _ c.in-Some.part _ c.loop-j.invariant.total
          (part-whole (cut_end net side j) c.in-Some.part part) (omega (arith, ints, c.in-Some.ensures.within));
      low = omega (arith, ints, c.in-Some.ensures.within);
      high = omega (arith, ints, c.in-Some.ensures.within);
    }
