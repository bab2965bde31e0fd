use Rattle.std.proofs.Common.{length}
use Rattle.theory.specs.Network.{«at»}
use Rattle.net_incidence.specs.Graph.{bare}
use Rattle.flow_pieces.specs.PiecesLaws.{count_carrying}
use Rattle.flow_pieces.specs.Course.{course, IsCourse}
use Rattle.flow_pieces.specs.Splitting.{GoesOn, StaysEmpty}
use Rattle.flow_pieces.proofs.splitting.exhaust.Given as goal

abbrev pub invariant-loop-step : goal.invariant-loop-step
invariant-loop-step l = record {
  course : IsCourse l.net (course l.walker);
  goes_on : GoesOn (bare l.net) l.initial.list («at» l.initial.walker.rest.items) l.list («at» l.walker.rest.items);
  stays_empty : StaysEmpty («at» l.initial.walker.rest.items) («at» l.walker.rest.items);
}

abbrev pub decreases-loop-step : goal.decreases-loop-step
decreases-loop-step l = count_carrying (length l.net.arcs) («at» l.walker.rest.items)
