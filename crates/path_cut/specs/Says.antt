-- What is found between two nodes, as claims over the flows and the potentials of every denominator.
use Rattle.std.specs.Prelude.{ℕ, ◌≤◌, ℤ, List}
use Rattle.theory.specs.Network.{Network}
use Rattle.theory.specs.Feasible.{IsFeasibleFlow, IsFeasiblePotential}
use Rattle.theory.specs.Best.{FlowIsRefused, TensionIsRefused}
use Rattle.path_cut.specs.GreatestFlow.{IsGreatestFlow, FlowHasNoTop}
use Rattle.path_cut.specs.GreatestTension.{IsGreatestTension, TensionHasNoTop}
use Rattle.path_cut.specs.declared.flow_found.FlowFound.{FlowFound}
use Rattle.path_cut.specs.declared.flow_found.FlowFound.TheVariants.{Greatest as GreatestFlow, Unbounded as NoTopFlow, Refused as NoFlow}
use Rattle.path_cut.specs.declared.tension_found.TensionFound.{TensionFound}
use Rattle.path_cut.specs.declared.tension_found.TensionFound.TheVariants.{Greatest as GreatestTension, Unbounded as NoTopTension, Refused as NoTension}

abbrev pub FlowSays : Network → FlowFound → Type 0
FlowSays net (GreatestFlow t x side) = IsGreatestFlow net t
FlowSays net (NoTopFlow x walk) = FlowHasNoTop net
FlowSays net (NoFlow side sum) = FlowIsRefused net

abbrev pub TensionSays : Network → ℕ → ℕ → TensionFound → Type 0
TensionSays net from to (GreatestTension t u walk) = IsGreatestTension net from to t
TensionSays net from to (NoTopTension u side) = TensionHasNoTop net from to
TensionSays net from to (NoTension walk sum) = TensionIsRefused net

-- there are feasible ones, over some denominator, and none is greatest
pub record LacksGreatestFlow (net : Network) : Type 0 where
  pub some : (q : ℕ) × (x : List ℤ) × (1 ≤ q) × IsFeasibleFlow q net x
  pub none : (t : ℤ) → IsGreatestFlow net t → ⊥

pub record LacksGreatestTension (net : Network) (from to : ℕ) : Type 0 where
  pub some : (q : ℕ) × (u : List ℤ) × (1 ≤ q) × IsFeasiblePotential q net u
  pub none : (t : ℤ) → IsGreatestTension net from to t → ⊥
