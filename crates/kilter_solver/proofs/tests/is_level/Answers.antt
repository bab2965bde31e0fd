use Rattle.std.proofs.Common.{◌<◌, pos, IsTrue, List, length, ap, ◌∙◌, subst, below_more, rules, arith}
use Rattle.theory.specs.declared.ext.Ext.{Ext}
use Rattle.theory.specs.Ends.{IsBetween}
use Rattle.theory.specs.Span.{InSpan, span_low}
use Rattle.kilter_solver.proofs.Bundles.{list-of}
use Rattle.kilter_solver.proofs.tests.is_level.Goals as goal

pub loop-j-preserved : goal.loop-j-preserved
loop-j-preserved g c =
    let curves = c.args.curves.now in
    let items = g.C.Monotone.items in
    let j = c.loop-j.j in
    let there : j < length curves = omega arith in
    let yes : IsTrue c.is_between.result = search rules in
    let between : IsBetween 1 c.span-low.result.0 c.span-low.result.1 (pos 0) = c.is_between.ensures.0 yes in
    let mine = items c.index-curves-j.result in
    let here : InSpan 1 mine (pos 0) =
    subst (λ (e : Ext). IsBetween 1 (span_low mine) e (pos 0)) c.span-low.ensures.high
    (subst (λ (e : Ext). IsBetween 1 e c.span-low.result.1 (pos 0)) c.span-low.ensures.low between) in
    record {
      level = below_more _ _ c.loop-j.invariant.level
          (subst (λ (l : List Ext). InSpan 1 l (pos 0)) (ap items c.index-curves-j.is ∙ list-of items curves c.index-curves-j.result j there) here);
    }
