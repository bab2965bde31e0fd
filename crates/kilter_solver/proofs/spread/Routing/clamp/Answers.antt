use Rattle.std.proofs.Common.{arith}
use Rattle.kilter_solver.proofs.Clamps.{clamped-more}
use Rattle.kilter_solver.proofs.spread.Routing.clamp.Goals as goal

pub loop-j-preserved : goal.loop-j-preserved
loop-j-preserved g c =
    let net = c.args.self.now.net.now in
    record {
      clamped = clamped-more net (g.B.Bundle.lists c.args.self.now.bundle.now) c.args.work.now c.loop-j.work c.clamp_one.new.work c.loop-j.j
          c.loop-j.invariant.clamped (omega arith) c.clamp_one.ensures.clamped;
      no_fewer = omega (arith, c.loop-j.invariant.no_fewer, c.clamp_one.ensures.no_fewer);
      count = omega (arith, c.loop-j.invariant.count, c.clamp_one.ensures.count);
    }
