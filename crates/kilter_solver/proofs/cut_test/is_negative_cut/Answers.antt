use Rattle.std.proofs.Common.{◌≡◌, map, below_more, Some, arith}
use Rattle.std.proofs.lemmas.Int.{ints}
use Rattle.theory.specs.Ends.{whole}
use Rattle.theory.specs.Cut.{cut_end}
use Rattle.net_incidence.specs.PartOf.{part_of}
use Rattle.net_incidence.proofs.SumParts.{part-finite, part-whole, sum_below-more}
use Rattle.net_incidence.specs.WithoutBases.{without_bases}
use Rattle.kilter_solver.proofs.cut_test.is_negative_cut.Goals as goal

pub loop-j-preserved : goal.loop-j-preserved
loop-j-preserved g c =
    let net = without_bases c.args.net.now (map g.C.Monotone.items c.args.curves.now) in
    let side = c.args.work.now.reached in
    let j = c.loop-j.j in
    let part : Some c.in-Some.part ≡ part_of (cut_end net side j) = c.in-Some.ensures.value in
    let near = c.in-Some.ensures.within in
    record {
      finite = below_more _ _ c.loop-j.invariant.finite (part-finite (cut_end net side j) c.in-Some.part part);
      total = sum_below-more j (λ k. whole (cut_end net side k)) _ c.in-Some.part _ c.loop-j.invariant.total
          (part-whole (cut_end net side j) c.in-Some.part part) (omega (arith, ints, near));
      within = (omega (arith, ints, near), omega (arith, ints, near));
      no_fewer = omega (arith, c.loop-j.invariant.no_fewer, c.in-Some.ensures.no_fewer);
      count = omega (arith, c.loop-j.invariant.count, c.in-Some.ensures.count);
    }
