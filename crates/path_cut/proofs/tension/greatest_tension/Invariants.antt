use Rattle.std.proofs.Common.{◌≡◌, ◌+◌, ◌*◌, ◌≤◌, length, map}
use Rattle.painted_search.specs.Fits.{Fits}
use Rattle.path_cut.specs.Climbing.{IsClimbing, lacked}
use Rattle.path_cut.proofs.tension.greatest_tension.Given as goal

abbrev pub invariant-loop-room : goal.invariant-loop-room
invariant-loop-room g l = record {
  fits : Fits l.net l.work;
  climbing : IsClimbing l.net (map g.C.Monotone.items l.curves) l.from.0 l.to.0 l.fn.work.potentials l.work;
  flows : l.work.flows ≡ l.fn.work.flows;
  no_fewer : l.fn.steps ≤ l.steps;
  count : l.steps + 3 * (lacked l.net.nodes l.work.reached * length l.net.arcs) ≤ l.fn.steps + 3 * (l.net.nodes * length l.net.arcs) + 2 * length l.net.arcs;
}

abbrev pub decreases-loop-room : goal.decreases-loop-room
decreases-loop-room g l = lacked l.net.nodes l.work.reached
