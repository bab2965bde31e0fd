use Rattle.std.proofs.Common.{IsTrue, below_more, arith, rules}
use Rattle.kilter_solver.proofs.kilter_test.are_on_curves.Goals as goal

pub loop-j-preserved : goal.loop-j-preserved
loop-j-preserved g c =
    let yes : IsTrue c.is_on_curve.result = search rules in
    record {
      pairs = below_more _ _ c.loop-j.invariant.pairs (c.is_on_curve.ensures.pair yes);
      no_fewer = omega (arith, c.loop-j.invariant.no_fewer, c.is_on_curve.ensures.no_fewer);
      count = omega (arith, c.loop-j.invariant.count, c.is_on_curve.ensures.count);
    }
