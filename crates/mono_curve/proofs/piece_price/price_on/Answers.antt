use Rattle.std.proofs.Common.{sym, ◌≡◌, ◌+◌, ◌*◌, ◌∙◌, pos, false, to_z-of_z, FitsSigned, arith, rules}
use Rattle.std.specs.Int.{w64, w128}
use Rattle.theory.specs.Ends.{whole, is_finite, IsFinite}
use Rattle.theory.specs.CurveList.{item}
use Rattle.mono_curve.proofs.PieceCosts.{cost_along, left_on_piece, right_on_piece, zero_on_piece, cost_at_zero, point_cost-small}
use Rattle.mono_curve.proofs.piece_price.price_on.Goals as goal

pub along-requires-clause-cost : goal.along-requires-clause-cost
along-requires-clause-cost g c =
    let curve = c.args.curve.now in
    let fits : FitsSigned w128 c.anchor.result = search rules in
    rw (to_z-of_z fits, c.anchor.ensures.cost) (point_cost-small (g.C.Looked.listing curve) (2 * c.args.k) (g.met.C.Looked.is_list curve) (g.met.C.Looked.items_within curve) (g.met.C.Looked.base_within curve) (omega arith))

pub returns-then-is_finite_end-clause-value : goal.returns-then-is_finite_end-clause-value
returns-then-is_finite_end-clause-value g c =
    let l = g.C.Looked.listing c.args.curve.now in
    let list = g.met.C.Looked.is_list c.args.curve.now in
    let fits : FitsSigned w128 c.along.result = search rules in
    let anchor_fits : FitsSigned w128 c.anchor.result = search rules in
    let slope_fits : FitsSigned w64 c.whole_of-slope.result = search rules in
    let from_fits : FitsSigned w64 c.whole_of.result = search rules in
    let finite : IsFinite (item l.items (2 * c.args.k)) = rw c.look-left.ensures.item at (sym c.is_finite_end.ensures ∙ c.if-is_finite_end.true) in
    let value = cost_along l (whole (item l.items (2 * c.args.k))) c.args.x c.args.k list c.requires.piece (left_on_piece l.items c.args.k list c.requires.piece finite) c.requires.on_piece in
    let along = rw (to_z-of_z anchor_fits, to_z-of_z slope_fits, to_z-of_z c.ranges.x, to_z-of_z from_fits, c.anchor.ensures.cost, c.whole_of-slope.ensures, c.look.ensures.item, c.whole_of.ensures, c.look-left.ensures.item) at c.along.ensures in
    to_z-of_z fits ∙ along ∙ sym value

pub along-requires-then-is_finite_end-2-clause-cost : goal.along-requires-then-is_finite_end-2-clause-cost
along-requires-then-is_finite_end-2-clause-cost g c =
    let curve = c.args.curve.now in
    let fits : FitsSigned w128 c.anchor-then-is_finite_end-2.result = search rules in
    rw (to_z-of_z fits, c.anchor-then-is_finite_end-2.ensures.cost)
    (point_cost-small (g.C.Looked.listing curve) (2 * c.args.k + 2) (g.met.C.Looked.is_list curve) (g.met.C.Looked.items_within curve) (g.met.C.Looked.base_within curve) (let list = g.met.C.Looked.is_list curve in omega (arith, list.odd)))

pub returns-then-is_finite_end-2-clause-value : goal.returns-then-is_finite_end-2-clause-value
returns-then-is_finite_end-2-clause-value g c =
    let l = g.C.Looked.listing c.args.curve.now in
    let list = g.met.C.Looked.is_list c.args.curve.now in
    let fits : FitsSigned w128 c.along-then-is_finite_end-2.result = search rules in
    let anchor_fits : FitsSigned w128 c.anchor-then-is_finite_end-2.result = search rules in
    let slope_fits : FitsSigned w64 c.whole_of-slope.result = search rules in
    let from_fits : FitsSigned w64 c.whole_of-then-is_finite_end-2.result = search rules in
    let finite : IsFinite (item l.items (2 * c.args.k + 2)) = rw c.look-right.ensures.item at (sym c.is_finite_end-2.ensures ∙ c.if-is_finite_end-2.true) in
    let value = cost_along l (whole (item l.items (2 * c.args.k + 2))) c.args.x c.args.k list c.requires.piece (right_on_piece l.items c.args.k list c.requires.piece finite) c.requires.on_piece in
    let along = rw (to_z-of_z anchor_fits, to_z-of_z slope_fits, to_z-of_z c.ranges.x, to_z-of_z from_fits, c.anchor-then-is_finite_end-2.ensures.cost, c.whole_of-slope.ensures, c.look.ensures.item, c.whole_of-then-is_finite_end-2.ensures, c.look-right.ensures.item) at c.along-then-is_finite_end-2.ensures in
    to_z-of_z fits ∙ along ∙ sym value

pub returns-clause-value : goal.returns-clause-value
returns-clause-value g c =
    let l = g.C.Looked.listing c.args.curve.now in
    let list = g.met.C.Looked.is_list c.args.curve.now in
    let fits : FitsSigned w128 c.along-2.result = search rules in
    let base_fits : FitsSigned w128 c.base.result = search rules in
    let slope_fits : FitsSigned w64 c.whole_of-slope.result = search rules in
    let endless_left : is_finite (item l.items (2 * c.args.k)) ≡ false = rw c.look-left.ensures.item at (sym c.is_finite_end.ensures ∙ c.if-is_finite_end.false) in
    let endless_right : is_finite (item l.items (2 * c.args.k + 2)) ≡ false = rw c.look-right.ensures.item at (sym c.is_finite_end-2.ensures ∙ c.if-is_finite_end-2.false) in
    let on_zero = zero_on_piece l.items c.args.k list c.requires.piece endless_left endless_right in
    let value = rw (cost_at_zero l c.args.k list c.requires.piece endless_left endless_right) at (cost_along l (pos 0) c.args.x c.args.k list c.requires.piece on_zero c.requires.on_piece) in
    let along = rw (to_z-of_z base_fits, to_z-of_z slope_fits, to_z-of_z c.ranges.x, c.base.ensures, c.whole_of-slope.ensures, c.look.ensures.item) at c.along-2.ensures in
    to_z-of_z fits ∙ along ∙ sym value
