use Rattle.theory.specs.Network.{«at»}
use Rattle.net_incidence.specs.Incidence.{incident_steps}
use Rattle.flow_pieces.specs.Course.{AreDry}
use Rattle.flow_pieces.proofs.walker.Walker.next_place.Given as goal

abbrev pub invariant-loop-k : goal.invariant-loop-k
invariant-loop-k l = AreDry («at» l.self.rest.items) (incident_steps l.net.arcs l.fn.node.0) l.k
