use Rattle.std.proofs.Common.{◌≡◌, false, sym, ◌∙◌, arith}
use Rattle.theory.specs.Ends.{is_finite}
use Rattle.theory.specs.CurveList.{last}
use Rattle.theory.proofs.Places.{longer, before_last_at}
use Rattle.theory.proofs.pricing.span_of.Goals as goal

pub returns-else-is_finite_end-2-clause-high : goal.returns-else-is_finite_end-2-clause-high
returns-else-is_finite_end-2-clause-high c =
    let endless : is_finite (last c.args.items.now) ≡ false = rw (← c.domain_of-first.ensures.high) (sym c.is_finite_end-2.ensures ∙ c.if-is_finite_end-2.false) in
    let long = longer c.args.items.now c.requires endless in
    rw endless (before_last_at c.args.items.now _ (omega arith))
