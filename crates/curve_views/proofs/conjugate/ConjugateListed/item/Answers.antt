use Rattle.std.proofs.Common.{◌≡◌, ◌∙◌, sym, true, false, arith}
use Rattle.theory.specs.Ends.{is_finite}
use Rattle.theory.specs.CurveList.{first}
use Rattle.theory.proofs.ViewBounds.{conjugate_short}
use Rattle.curve_views.proofs.TurnedList.{item-endless, item-ended}
use Rattle.curve_views.proofs.conjugate.ConjugateListed.item.Goals as goal

pub overflow_add-i : goal.overflow_add-i
overflow_add-i g c =
    let short = conjugate_short (g.C.Listed.listing c.args.self.now.curve.now).items (g.met.C.Listed.is_list c.args.self.now.curve.now) (g.met.C.Listed.items_within c.args.self.now.curve.now) in
    omega arith

pub returns-then-not-is_finite_end : goal.returns-then-not-is_finite_end
returns-then-not-is_finite_end g c =
    let endless : is_finite (first (g.C.Listed.listing c.args.self.now.curve.now).items) ≡ false = rw (← c.domain_of-first.ensures.low) (sym c.is_finite_end.ensures ∙ c.if-not-is_finite_end.true) in
    c.item_or_end.ensures ∙ sym (item-endless (g.C.Listed.listing c.args.self.now.curve.now).items (g.met.C.Listed.is_list c.args.self.now.curve.now) endless c.args.i c.requires)

pub returns : goal.returns
returns g c =
    let ended : is_finite (first (g.C.Listed.listing c.args.self.now.curve.now).items) ≡ true = rw (← c.domain_of-first.ensures.low) (sym c.is_finite_end.ensures ∙ c.if-not-is_finite_end.false) in
    c.item_or_end-2.ensures ∙ sym (item-ended (g.C.Listed.listing c.args.self.now.curve.now).items (g.met.C.Listed.is_list c.args.self.now.curve.now) ended c.args.i (omega arith) c.requires)
