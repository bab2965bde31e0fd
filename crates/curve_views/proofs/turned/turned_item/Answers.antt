use Rattle.std.proofs.Common.{◌≡◌, ◌∙◌, sym, true, false, arith}
use Rattle.theory.specs.Ends.{is_finite}
use Rattle.theory.specs.CurveList.{first}
use Rattle.theory.proofs.Places.{first_at}
use Rattle.theory.proofs.ViewBounds.{conjugate_short}
use Rattle.curve_views.proofs.TurnedList.{item-endless, item-ended}
use Rattle.curve_views.proofs.turned.turned_item.Goals as goal

pub overflow_add-i : goal.overflow_add-i
overflow_add-i g c =
    let short = conjugate_short (g.C.Looked.listing c.args.curve.now).items (g.met.C.Looked.is_list c.args.curve.now) (g.met.C.Looked.items_within c.args.curve.now) in
    omega arith

pub returns-then-not-is_finite_end-clause-item : goal.returns-then-not-is_finite_end-clause-item
returns-then-not-is_finite_end-clause-item g c =
    let items = (g.C.Looked.listing c.args.curve.now).items in
    let endless : is_finite (first items) ≡ false = rw (c.look-first.ensures.item, first_at items) at (sym c.is_finite_end.ensures ∙ c.if-not-is_finite_end.true) in
    c.look_or_end.ensures.item ∙ sym (item-endless items (g.met.C.Looked.is_list c.args.curve.now) endless c.args.i c.requires)

pub returns-clause-item : goal.returns-clause-item
returns-clause-item g c =
    let items = (g.C.Looked.listing c.args.curve.now).items in
    let ended : is_finite (first items) ≡ true = rw (c.look-first.ensures.item, first_at items) at (sym c.is_finite_end.ensures ∙ c.if-not-is_finite_end.false) in
    c.look_or_end-2.ensures.item ∙ sym (item-ended items (g.met.C.Looked.is_list c.args.curve.now) ended c.args.i (omega arith) c.requires)
