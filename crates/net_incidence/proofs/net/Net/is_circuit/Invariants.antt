use Rattle.net_incidence.specs.Graph.{bare}
use Rattle.net_incidence.specs.BadStep.{NoneBadBelow}
use Rattle.net_incidence.proofs.net.Net.is_circuit.Given as goal

abbrev pub invariant-loop-k : goal.invariant-loop-k
invariant-loop-k l = NoneBadBelow (bare l.self) l.walk l.k
