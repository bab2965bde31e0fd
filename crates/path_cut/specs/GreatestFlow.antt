-- Greatest flows. The last arc of a network with a return leads from the goal back to the start, and may carry any flow: what is
-- sent from the start to the goal over the other arcs comes back on it. Flows over every common denominator are compared.
use Rattle.std.specs.Prelude.{◌≡◌, ℕ, ◌-◌, ◌≤◌, ◌<◌, ℤ, pos, ◌*ℤ◌, ◌≤ℤ◌, ◌<ℤ◌, Bool, false, IsTrue, List, length}
use Rattle.theory.specs.declared.ext.Ext.TheVariants.{MinusInf, PlusInf}
use Rattle.theory.specs.declared.network.Step.{Step}
use Rattle.theory.specs.Sums.{sum_below}
use Rattle.theory.specs.Ends.{IsFinite, whole}
use Rattle.theory.specs.CurveList.{first, last}
use Rattle.theory.specs.Network.{Network, «at», tail, head, curve}
use Rattle.theory.specs.Feasible.{IsFeasibleFlow}
use Rattle.theory.specs.Cut.{holds, cut_end}
use Rattle.theory.specs.Circuit.{step}
use Rattle.path_cut.specs.Paths.{IsPath, leading_end}

abbrev pub return_arc : Network → ℕ
return_arc net = length net.arcs - 1

abbrev pub start : Network → ℕ
start net = head net (return_arc net)

abbrev pub goal : Network → ℕ
goal net = tail net (return_arc net)

pub record HasReturn (net : Network) : Type 0 where
  pub some : 0 < length net.arcs
  pub no_lower : first (curve net (return_arc net)).items ≡ MinusInf
  pub no_upper : last (curve net (return_arc net)).items ≡ PlusInf

-- no feasible flow carries more
abbrev pub IsFlowBound : Network → ℤ → Type 0
IsFlowBound net t = (q : ℕ) (x : List ℤ) → 1 ≤ q → IsFeasibleFlow q net x → «at» x (return_arc net) ≤ℤ (pos q *ℤ t)

pub record IsGreatestFlow (net : Network) (t : ℤ) : Type 0 where
  pub carried : (x : List ℤ) × IsFeasibleFlow 1 net x × («at» x (return_arc net) ≡ t)
  pub most : IsFlowBound net t

-- above every number there is a feasible flow
abbrev pub FlowHasNoTop : Network → Type 0
FlowHasNoTop net = (bound : ℤ) → (x : List ℤ) × IsFeasibleFlow 1 net x × (bound <ℤ «at» x (return_arc net))

-- a set of nodes that parts the start from the goal, and whose cut sum without the last arc counts
pub record IsCutOf (net : Network) (side : List Bool) (t : ℤ) : Type 0 where
  pub holds_start : IsTrue (holds side (start net))
  pub lacks_goal : holds side (goal net) ≡ false
  pub counts : (j : ℕ) → j < return_arc net → IsFinite (cut_end net side j)
  pub sum : sum_below (return_arc net) (λ j. whole (cut_end net side j)) ≡ t

-- a path from the start to the goal, over other arcs than the last, along which a flow may grow without end
pub record IsOpenPath (net : Network) (walk : List Step) : Type 0 where
  pub path : IsPath net walk (start net) (goal net)
  pub others : (k : ℕ) → k < length walk → (step walk k).arc.0 < return_arc net
  pub endless : (k : ℕ) → k < length walk → leading_end (curve net (step walk k).arc.0).items (step walk k).forward ≡ PlusInf
