use Rattle.std.proofs.Common.{◌≡◌, ◌∙◌, length, map, ap, below_more, Some, None, refl, arith}
use Rattle.std.proofs.lemmas.Int.{ints}
use Rattle.theory.specs.Ends.{whole, IsFinite}
use Rattle.theory.specs.Circuit.{span_end, step}
use Rattle.net_incidence.specs.Graph.{network}
use Rattle.net_incidence.specs.PartOf.{part_of}
use Rattle.net_incidence.proofs.SumParts.{part-finite, part-whole, part-endless, curve-of, passing-at, each-places, span_sum-places, sum_below-more}
use Rattle.net_incidence.proofs.net.Net.circuit_sum.Goals as goal

pub loop-step-preserved : goal.loop-step-preserved
loop-step-preserved g c =
    let net = network c.args.self.now (map g.C.Listed.listing c.args.curves.now) in
    let s = step c.args.walk.now c.loop-step.step-index in
    let there = c.requires.there c.loop-step.step-index (omega arith) in
    let curve_is = curve-of g.C.Listed.listing c.args.self.now c.args.curves.now c.index-curves-step.result s.arc.0
    (omega (arith, there, c.requires.one_curve_each)) c.index-curves-step.is in
    let part : Some c.in-Some.part ≡ part_of (span_end net s) =
    c.in-Some.ensures.value ∙ ap part_of (passing-at net s (g.C.Listed.listing c.index-curves-step.result) curve_is) in
    record {
      finite = below_more _ _ c.loop-step.invariant.finite (part-finite (span_end net s) c.in-Some.part part);
      total = sum_below-more c.loop-step.step-index (λ k. whole (span_end net (step c.args.walk.now k))) _ c.in-Some.part _
          c.loop-step.invariant.total (part-whole (span_end net s) c.in-Some.part part) (omega (arith, ints, c.in-Some.ensures.within));
      low = omega (arith, ints, c.in-Some.ensures.within);
      high = omega (arith, ints, c.in-Some.ensures.within);
    }

pub returns-in-None-clause-sum : goal.returns-in-None-clause-sum
returns-in-None-clause-sum g c =
    let net = network c.args.self.now (map g.C.Listed.listing c.args.curves.now) in
    let k = c.loop-step.step-index in
    let s = step c.args.walk.now k in
    let there = c.requires.there k (omega arith) in
    let curve_is = curve-of g.C.Listed.listing c.args.self.now c.args.curves.now c.index-curves-step.result s.arc.0
    (omega (arith, there, c.requires.one_curve_each)) c.index-curves-step.is in
    let part : None ≡ part_of (span_end net s) =
    c.in-None.ensures.value ∙ ap part_of (passing-at net s (g.C.Listed.listing c.index-curves-step.result) curve_is) in
    (k, record { there = omega arith; fails = part-endless (span_end net s) part; before = c.loop-step.invariant.finite }, refl)

pub returns-clause-sum : goal.returns-clause-sum
returns-clause-sum g c =
    let net = network c.args.self.now (map g.C.Listed.listing c.args.curves.now) in
    let all : c.loop-step.step-index ≡ length c.args.walk.now = omega arith in (
      each-places (λ s. IsFinite (span_end net s)) c.args.walk.now (rw all at c.loop-step.invariant.finite),
      (rw all at c.loop-step.invariant.total) ∙ span_sum-places net c.args.walk.now,
    )
