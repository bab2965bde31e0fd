-- Laws of greatest flows: a cut shows that a flow is greatest, an open path that none is, and no network has both.
use Rattle.std.specs.Prelude.{◌≡◌, ℤ, Bool, List}
use Rattle.theory.specs.declared.network.Step.{Step}
use Rattle.theory.specs.Network.{Network, IsNetwork, «at»}
use Rattle.theory.specs.Feasible.{IsFeasibleFlow}
use Rattle.path_cut.specs.GreatestFlow.{HasReturn, return_arc, IsGreatestFlow, FlowHasNoTop, IsCutOf, IsOpenPath}

abbrev pub FlowCutLaw : Type 0
FlowCutLaw = (net : Network) (side : List Bool) (x : List ℤ) (t : ℤ) → IsNetwork net → HasReturn net → IsFeasibleFlow 1 net x
    → «at» x (return_arc net) ≡ t → IsCutOf net side t → IsGreatestFlow net t

abbrev pub OpenPathLaw : Type 0
OpenPathLaw = (net : Network) (walk : List Step) (x : List ℤ) → IsNetwork net → HasReturn net → IsFeasibleFlow 1 net x
    → IsOpenPath net walk → FlowHasNoTop net

pub record IsFlowExact (net : Network) : Type 0 where
  pub one : (s t : ℤ) → IsGreatestFlow net s → IsGreatestFlow net t → s ≡ t
  pub not_both : (t : ℤ) → IsGreatestFlow net t → FlowHasNoTop net → ⊥

abbrev pub FlowExactLaw : Type 0
FlowExactLaw = (net : Network) → IsFlowExact net
