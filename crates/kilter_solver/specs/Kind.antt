-- The kind of a certificate, and when each kind comes. The claims are over the flows and potentials of every denominator.
use Rattle.std.specs.Prelude.{◌↔◌}
use Rattle.theory.specs.Network.{Network}
use Rattle.theory.specs.Best.{FlowIsRefused, TensionIsRefused}
use Rattle.theory.specs.Certificate.{Certificate}
use Rattle.theory.specs.Certificate.Certificate.{optimal, cut, circuit}

abbrev pub IsOptimal : Certificate → Type 0
IsOptimal (optimal x u cost value) = Unit {0}
IsOptimal (cut side capacity) = ⊥
IsOptimal (circuit x walk span) = ⊥

abbrev pub IsCut : Certificate → Type 0
IsCut (optimal x u cost value) = ⊥
IsCut (cut side capacity) = Unit {0}
IsCut (circuit x walk span) = ⊥

abbrev pub IsCircuit : Certificate → Type 0
IsCircuit (optimal x u cost value) = ⊥
IsCircuit (cut side capacity) = ⊥
IsCircuit (circuit x walk span) = Unit {0}

-- an optimal pair exactly where a flow and a potential are feasible, a cut exactly where no flow is, a circuit exactly where
-- a flow is and no potential
pub record IsRightKind (net : Network) (c : Certificate) : Type 0 where
  pub optimal_is : IsOptimal c ↔ ((¬ FlowIsRefused net) × (¬ TensionIsRefused net))
  pub cut_is : IsCut c ↔ FlowIsRefused net
  pub circuit_is : IsCircuit c ↔ ((¬ FlowIsRefused net) × TensionIsRefused net)
