use Rattle.std.proofs.Common.{◌≡◌, ◌+◌, ◌*◌, length, to_z-of_z, FitsSigned, arith, rules}
use Rattle.std.specs.Int.{w64}
use Rattle.std.proofs.lemmas.List.{length_push}
use Rattle.mono_curve.proofs.PieceCosts.{price_at, kept_more, IsCosted}
use Rattle.mono_curve.proofs.kept.costs_of.Goals as goal

pub loop-k-preserved : goal.loop-k-preserved
loop-k-preserved c =
    let items = c.args.items.now in
    let here = c.end_of_piece-here.result in
    let now = c.end_of_piece-here.ensures in
    let before = c.loop-k.invariant in
    let fits : FitsSigned w64 c.end_of_piece-here.result.price = search rules in
    let pushed = rw (to_z-of_z fits) at c.in_ok-push-2.ensures.items in
    rw pushed
    (record {
      kept = kept_more items c.loop-k.costs.items here.price (c.loop-k.k + 1) before.kept before.counted
          (λ finite. price_at items (2 * (c.loop-k.k + 1)) here.flow here.price now.priced.is_price now.at_point finite);
      counted = omega (arith, length_push c.loop-k.costs.items here.price, before.counted);
      priced = now.priced;
      flow_within = now.flow_within;
    })
