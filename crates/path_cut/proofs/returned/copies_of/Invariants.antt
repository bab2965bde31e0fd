use Rattle.std.proofs.Common.{◌≡◌, take}
use Rattle.ground_net.specs.Ground.{listings}
use Rattle.path_cut.proofs.returned.copies_of.Given as goal

abbrev pub invariant-loop-curve : goal.invariant-loop-curve
invariant-loop-curve l = listings l.copies.items ≡ take l.curve-index (listings l.curves)
