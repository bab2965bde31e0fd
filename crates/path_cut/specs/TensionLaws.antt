-- Laws of greatest tensions: a path shows that a tension is greatest, an open cut that none is, and no network has both.
use Rattle.std.specs.Prelude.{◌≡◌, ℕ, ◌<◌, ℤ, Bool, List}
use Rattle.theory.specs.declared.network.Step.{Step}
use Rattle.theory.specs.Network.{Network, IsNetwork}
use Rattle.theory.specs.Feasible.{IsFeasiblePotential}
use Rattle.path_cut.specs.GreatestTension.{rise, IsGreatestTension, TensionHasNoTop, IsPathOf, IsOpenCut}

abbrev pub TensionPathLaw : Type 0
TensionPathLaw = (net : Network) (walk : List Step) (from to : ℕ) (u : List ℤ) (t : ℤ) → IsFeasiblePotential 1 net u
    → rise u from to ≡ t → IsPathOf net walk from to t → IsGreatestTension net from to t

abbrev pub OpenCutLaw : Type 0
OpenCutLaw = (net : Network) (side : List Bool) (from to : ℕ) (u : List ℤ) → IsNetwork net → from < net.nodes → to < net.nodes
    → IsFeasiblePotential 1 net u → IsOpenCut net side from to → TensionHasNoTop net from to

pub record IsTensionExact (net : Network) (from to : ℕ) : Type 0 where
  pub one : (s t : ℤ) → IsGreatestTension net from to s → IsGreatestTension net from to t → s ≡ t
  pub not_both : (t : ℤ) → IsGreatestTension net from to t → TensionHasNoTop net from to → ⊥

abbrev pub TensionExactLaw : Type 0
TensionExactLaw = (net : Network) (from to : ℕ) → IsTensionExact net from to
