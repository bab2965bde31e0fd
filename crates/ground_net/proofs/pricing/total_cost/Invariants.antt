use Rattle.theory.specs.Cost.{cost}
use Rattle.theory.specs.Network.{«at», curve}
use Rattle.theory.specs.PartialSum.{IsPartialSum}
use Rattle.ground_net.specs.Costs.{cost_most}
use Rattle.ground_net.proofs.pricing.total_cost.Given as goal

abbrev pub invariant-loop-j : goal.invariant-loop-j
invariant-loop-j l = IsPartialSum (λ j. cost 1 (curve l.g.network j) («at» l.flows j)) cost_most l.j l.total
