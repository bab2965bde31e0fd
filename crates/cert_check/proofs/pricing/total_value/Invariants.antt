use Rattle.std.proofs.Common.{◌^◌, ◌*◌, neg_ℤ}
use Rattle.theory.specs.ConjugateCost.{conjugate_cost}
use Rattle.theory.specs.Network.{«at», curve}
use Rattle.theory.specs.Conserved.{tension}
use Rattle.theory.specs.PartialSum.{IsPartialSum}
use Rattle.cert_check.proofs.pricing.total_value.Given as goal

abbrev pub invariant-loop-j : goal.invariant-loop-j
invariant-loop-j l =
    IsPartialSum (λ j. conjugate_cost 1 (curve l.g.network j) (tension l.g.network («at» l.u) j)) (2 * 10 ^ 28) l.j (neg_ℤ l.total)
