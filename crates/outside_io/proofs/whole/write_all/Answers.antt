use Rattle.std.proofs.Common.{rules, arith}
use Rattle.outside_io.proofs.Grown.{grew_further, fell_further, front_further}
use Rattle.outside_io.proofs.whole.write_all.Goals as goal

pub loop-at-preserved : goal.loop-at-preserved
loop-at-preserved g c =
    let before = c.loop-at.invariant in
    let took = c.in-Took.ensures in
    record {
      within = omega (arith, took.bound);
      grown = rw (← front_further c.args.text.now c.loop-at.at c.in-Took.count) (grew_further _ _ _ _ _ before.grown took.bytes);
      spent = fell_further _ _ _ _ _ before.spent took.room;
      faults = search rules;
      unused = λ none. absurd (omega (arith, took.bound, none));
    }
