use Rattle.ground_net.specs.Ground.{listings}
use Rattle.ground_net.specs.Built.{IsBuilt}
use Rattle.ground_net.proofs.build.add_ground_arcs.Given as goal

abbrev pub invariant-loop-i : goal.invariant-loop-i
invariant-loop-i l = IsBuilt l.m.entries l.i l.net (listings l.curves.items)
