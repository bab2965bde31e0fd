-- What is found of the flows of a network with a return, and of the tensions between two nodes.
use Rattle.std.specs.Prelude.{◌≡◌, ℕ, ◌<◌, ℤ, Bool, List, length}
use Rattle.theory.specs.declared.network.Step.{Step}
use Rattle.theory.specs.Limits.{IsWithin}
use Rattle.theory.specs.Network.{Network, «at»}
use Rattle.theory.specs.Feasible.{IsFeasibleFlow, IsFeasiblePotential}
use Rattle.theory.specs.Cut.{IsNegativeCut, cut_sum}
use Rattle.theory.specs.Circuit.{IsNegativeCircuit, WalkIsThere, span_sum}
use Rattle.path_cut.specs.GreatestFlow.{return_arc, IsCutOf, IsOpenPath}
use Rattle.path_cut.specs.GreatestTension.{rise, IsPathOf, IsOpenCut}
use Rattle.path_cut.specs.declared.flow_found.FlowFound.{FlowFound}
use Rattle.path_cut.specs.declared.flow_found.FlowFound.TheVariants.{Greatest as GreatestFlow, Unbounded as NoTopFlow, Refused as NoFlow}
use Rattle.path_cut.specs.declared.tension_found.TensionFound.{TensionFound}
use Rattle.path_cut.specs.declared.tension_found.TensionFound.TheVariants.{Greatest as GreatestTension, Unbounded as NoTopTension, Refused as NoTension}

pub record IsCarried (net : Network) (t : ℤ) (x : List ℤ) (side : List Bool) : Type 0 where
  pub feasible : IsFeasibleFlow 1 net x
  pub carries : «at» x (return_arc net) ≡ t
  pub one_mark_each : length side ≡ net.nodes
  pub cut : IsCutOf net side t

-- by what is found: a flow with its cut, a flow with an open path, or a cut that refuses every flow
abbrev pub IsFlowFound : Network → FlowFound → Type 0
IsFlowFound net (GreatestFlow t x side) = IsCarried net t x side
IsFlowFound net (NoTopFlow x walk) = IsFeasibleFlow 1 net x × IsOpenPath net walk
IsFlowFound net (NoFlow side sum) = (length side ≡ net.nodes) × IsNegativeCut net side × (sum ≡ cut_sum net side)

pub record IsReached (net : Network) (from to : ℕ) (t : ℤ) (u : List ℤ) (walk : List Step) : Type 0 where
  pub feasible : IsFeasiblePotential 1 net u
  pub rises : rise u from to ≡ t
  pub path : IsPathOf net walk from to t

-- a potential with its path, a potential with an open cut, or a circuit that refuses every potential
abbrev pub IsTensionFound : Network → ℕ → ℕ → TensionFound → Type 0
IsTensionFound net from to (GreatestTension t u walk) = IsReached net from to t u walk
IsTensionFound net from to (NoTopTension u side) = IsFeasiblePotential 1 net u × (length side ≡ net.nodes) × IsOpenCut net side from to
IsTensionFound net from to (NoTension walk sum) = WalkIsThere net walk × IsNegativeCircuit net walk × (sum ≡ span_sum net walk)

-- the numbers of what is found are within a limit
abbrev pub FlowsWithin : ℕ → FlowFound → Type 0
FlowsWithin most (GreatestFlow t x side) = (j : ℕ) → IsWithin most («at» x j)
FlowsWithin most (NoTopFlow x walk) = (j : ℕ) → IsWithin most («at» x j)
FlowsWithin most (NoFlow side sum) = Unit {0}

abbrev pub PotentialsWithin : ℕ → ℕ → TensionFound → Type 0
PotentialsWithin nodes most (GreatestTension t u walk) = (i : ℕ) → i < nodes → IsWithin most («at» u i)
PotentialsWithin nodes most (NoTopTension u side) = (i : ℕ) → i < nodes → IsWithin most («at» u i)
PotentialsWithin nodes most (NoTension walk sum) = Unit {0}
