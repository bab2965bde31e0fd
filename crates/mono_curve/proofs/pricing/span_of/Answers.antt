use Rattle.std.proofs.Common.{◌≡◌, false, sym, ◌∙◌, arith}
use Rattle.theory.specs.Ends.{is_finite}
use Rattle.theory.specs.CurveList.{last}
use Rattle.theory.proofs.Places.{longer, before_last_at}
use Rattle.mono_curve.proofs.pricing.span_of.Goals as goal

pub returns-else-is_finite_end-2-clause-high : goal.returns-else-is_finite_end-2-clause-high
returns-else-is_finite_end-2-clause-high g c =
    let endless : is_finite (last (g.C.Listed.listing c.args.curve.now).items) ≡ false = rw (← c.domain_of-first.ensures.high) (sym c.is_finite_end-2.ensures ∙ c.if-is_finite_end-2.false) in
    let long = longer (g.C.Listed.listing c.args.curve.now).items (g.met.C.Listed.is_list c.args.curve.now) endless in
    rw endless (c.item-high.ensures ∙ before_last_at (g.C.Listed.listing c.args.curve.now).items _ (omega arith))
