use Rattle.std.proofs.Common.{◌≡◌, ◌-◌, ◌∙◌, arith}
use Rattle.theory.specs.CurveList.{first, last}
use Rattle.theory.proofs.Places.{first_at, last_at}
use Rattle.curve_views.proofs.price_tests.price_inside.Goals as goal

pub price-requires-clause-inside : goal.price-requires-clause-inside
price-requires-clause-inside g c =
    let items = (g.C.Looked.listing c.args.curve.now).items in
    let list = g.met.C.Looked.is_list c.args.curve.now in
    let low : c.look-low.result ≡ first items = c.look-low.ensures.item ∙ first_at items in
    let high : c.look-high.result ≡ last items = c.look-high.ensures.item ∙ last_at items (c.len.result - 1) (omega (arith, list.odd, c.len.ensures)) in
    rw (low, high) at (c.is_between.ensures.0 c.if-is_between.true)
