use Rattle.std.proofs.Common.{◌+◌, length}
use Rattle.ground_net.specs.Ground.{listings}
use Rattle.ground_net.specs.Built.{IsBuilt}
use Rattle.ground_net.proofs.build.add_model_arcs.Given as goal

abbrev pub invariant-loop-j : goal.invariant-loop-j
invariant-loop-j l = IsBuilt l.m.entries (length l.m.entries.nodes + l.j) l.net (listings l.curves.items)
