use Rattle.std.proofs.Common.{sym, ◌∙◌, ap, subst, refl, to_z-of_z, FitsSigned, arith, rules}
use Rattle.std.specs.Int.{w128}
use Rattle.theory.specs.Ends.{whole, IsFinite}
use Rattle.theory.specs.declared.ext.Ext.{Ext}
use Rattle.theory.specs.Cost.{cost}
use Rattle.mono_curve.proofs.PieceCosts.{first_is_flow, pieces_below, piece_of_flow, cost-small, point_cost-small}
use Rattle.mono_curve.proofs.piece_price.price.Goals as goal

pub anchor-requires : goal.anchor-requires
anchor-requires g c =
    let items = (g.C.Looked.listing c.args.curve.now).items in
    let list = g.met.C.Looked.is_list c.args.curve.now in
    let turn = rw (to_z-of_z c.ranges.x, c.if-below-eq0.true) at c.count_below-below.ensures.turn in
    let is = first_is_flow items c.args.x list c.requires.inside turn in
    record {
      inside = omega (arith, list.odd);
      even = refl;
      finite = subst (λ (e : Ext). IsFinite e) (sym is) refl;
    }

pub returns-then-below-eq0-clause-value : goal.returns-then-below-eq0-clause-value
returns-then-below-eq0-clause-value g c =
    let l = g.C.Looked.listing c.args.curve.now in
    let fits : FitsSigned w128 c.anchor.result = search rules in
    let turn = rw (to_z-of_z c.ranges.x, c.if-below-eq0.true) at c.count_below-below.ensures.turn in
    let is = first_is_flow l.items c.args.x (g.met.C.Looked.is_list c.args.curve.now) c.requires.inside turn in
    to_z-of_z fits ∙ c.anchor.ensures.cost ∙ ap (λ (e : Ext). cost 1 l (whole e)) is

pub returns-then-below-eq0-clause-within : goal.returns-then-below-eq0-clause-within
returns-then-below-eq0-clause-within g c =
    let curve = c.args.curve.now in
    let list = g.met.C.Looked.is_list curve in
    let fits : FitsSigned w128 c.anchor.result = search rules in
    rw (to_z-of_z fits, c.anchor.ensures.cost) (point_cost-small (g.C.Looked.listing curve) 0 list (g.met.C.Looked.items_within curve) (g.met.C.Looked.base_within curve) (omega (arith, list.odd)))

pub price_on-requires-clause-piece : goal.price_on-requires-clause-piece
price_on-requires-clause-piece g c =
    let turn = rw (to_z-of_z c.ranges.x) at c.count_below-below.ensures.turn in
    let most = pieces_below (g.C.Looked.listing c.args.curve.now).items c.args.x c.count_below-below.result (g.met.C.Looked.is_list c.args.curve.now) c.requires.inside turn in
    omega (arith, most, c.if-below-eq0.false)

pub price_on-requires-clause-on_piece : goal.price_on-requires-clause-on_piece
price_on-requires-clause-on_piece g c =
    let turn = rw (to_z-of_z c.ranges.x) at c.count_below-below.ensures.turn in
    rw (to_z-of_z c.ranges.x)
    (piece_of_flow (g.C.Looked.listing c.args.curve.now).items c.args.x c.count_below-below.result (g.met.C.Looked.is_list c.args.curve.now) c.requires.inside turn (omega (arith, c.if-below-eq0.false)))

pub returns-clause-within : goal.returns-clause-within
returns-clause-within g c =
    let curve = c.args.curve.now in
    let fits : FitsSigned w128 c.price_on.result = search rules in
    let value = rw (to_z-of_z c.ranges.x) at c.price_on.ensures.value in
    rw (to_z-of_z fits, value) (cost-small (g.C.Looked.listing curve) c.args.x (g.met.C.Looked.is_list curve) (g.met.C.Looked.items_within curve) (g.met.C.Looked.base_within curve) c.requires.flow_within)
