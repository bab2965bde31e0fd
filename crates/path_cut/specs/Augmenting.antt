-- Flows on the way to a greatest one, and what a look for a path finds.
use Rattle.std.specs.Prelude.{◌≡◌, ℕ, ◌*◌, ◌<◌, ◌≤◌, ℤ, ◌-ℤ◌, ◌≤ℤ◌, Option, Some, None, List, length}
use Rattle.theory.specs.declared.ext.Ext.{Ext}
use Rattle.theory.specs.declared.network.Step.{Step}
use Rattle.theory.specs.Limits.{number_most}
use Rattle.theory.specs.Network.{Network, «at»}
use Rattle.theory.specs.Feasible.{IsFeasibleFlow}
use Rattle.theory.specs.Circuit.{step}
use Rattle.painted_search.specs.Room.{Room}
use Rattle.feasible_flow.specs.Violations.{movable_most}
use Rattle.feasible_flow.specs.UnderWay.{AllHaveRoom}
use Rattle.path_cut.specs.Paths.{IsPath}
use Rattle.path_cut.specs.GreatestFlow.{return_arc, start, goal, IsCutOf, IsOpenPath}
use Rattle.path_cut.specs.declared.flow.FlowTop.{FlowTop}
use Rattle.path_cut.specs.declared.flow.FlowTop.TheVariants.{Greatest, Unbounded}

-- where no path is open, no flow carries more than this many units
abbrev pub top_most : Network → ℕ
top_most net = length net.arcs * number_most

-- feasible, and no flow has moved further than the last one has risen
pub record IsAugmented (net : Network) (begun x : List ℤ) : Type 0 where
  pub feasible : IsFeasibleFlow 1 net x
  pub up : (j : ℕ) → («at» x j -ℤ «at» begun j) ≤ℤ («at» x (return_arc net) -ℤ «at» begun (return_arc net))
  pub down : (j : ℕ) → («at» begun j -ℤ «at» x j) ≤ℤ («at» x (return_arc net) -ℤ «at» begun (return_arc net))

-- a path from the start to the goal, each step of which has room for the amount
pub record IsWay (net : Network) (lists : List (List Ext)) (x : List ℤ) (walk : List Step) (amount : ℕ) : Type 0 where
  pub path : IsPath net walk (start net) (goal net)
  pub others : (k : ℕ) → k < length walk → (step walk k).arc.0 < return_arc net
  pub some : 1 ≤ amount
  pub most : amount ≤ movable_most
  pub room : AllHaveRoom lists x walk amount

abbrev pub IsFound : Network → List (List Ext) → Room → Option ℕ → Type 0
IsFound net lists w (Some amount) = IsWay net lists w.flows w.walk amount
IsFound net lists w None = IsCutOf net w.reached («at» w.flows (return_arc net))

-- what a greatest flow is answered by, where the room's flows were these
abbrev pub IsFlowAnswer : Network → List ℤ → Room → FlowTop → Type 0
IsFlowAnswer net begun w (Greatest t) = («at» w.flows (return_arc net) ≡ t) × IsCutOf net w.reached t
IsFlowAnswer net begun w Unbounded = (w.flows ≡ begun) × IsOpenPath net w.walk
