-- The bound of a step: the potential where it ends is at most the potential where it begins plus the step's span end. The
-- tension of an arc is in its span where the bounds of both steps over it hold.
use Rattle.std.specs.Prelude.{◌≡◌, ℕ, ℤ, ◌+ℤ◌, ◌≤ℤ◌, ◌<ℤ◌, true, false, Option, None, Some, List}
use Rattle.theory.specs.declared.network.NodeId.{NodeId}
use Rattle.theory.specs.declared.network.Step.{Step}
use Rattle.theory.specs.Ends.{IsFinite, whole}
use Rattle.theory.specs.Network.{Network, «at»}
use Rattle.theory.specs.Circuit.{begin_of, end_of, span_end}
use Rattle.net_incidence.specs.Incidence.{over}
use Rattle.painted_search.specs.Room.{Room}
use Rattle.painted_search.specs.Writes.{with_potential, relabelled}

-- the greatest potential that a step leaves to the node where it ends, if its span end is finite
abbrev pub most_at : Network → List ℤ → Step → ℤ
most_at net u s = «at» u (begin_of net s) +ℤ whole (span_end net s)

abbrev pub IsBound : Network → List ℤ → Step → Type 0
IsBound net u s = IsFinite (span_end net s) → «at» u (end_of net s) ≤ℤ most_at net u s

pub record IsHeld (net : Network) (u : List ℤ) (j : ℕ) : Type 0 where
  pub forward : IsBound net u (over j true)
  pub backward : IsBound net u (over j false)

-- the room where the end of a step is lowered to the step's bound, and labelled by the step
abbrev pub lowered : Network → Room → Step → Room
lowered net w s = relabelled (with_potential w (end_of net s) (most_at net w.potentials s)) (end_of net s) s

-- the bound of a step over arc j did not hold, and the node where the step ends was lowered
pub record IsLowered (net : Network) (j : ℕ) (v : Room) (node : ℕ) (w : Room) : Type 0 where
  pub pace : Step
  pub over_arc : pace.arc.0 ≡ j
  pub finite : IsFinite (span_end net pace)
  pub above : most_at net v.potentials pace <ℤ «at» v.potentials (end_of net pace)
  pub node_is : node ≡ end_of net pace
  pub made : w ≡ lowered net v pace

-- what examining an arc does to a room: nothing if its bounds hold, and else it lowers a node
abbrev pub IsExamined : Network → ℕ → Room → Option NodeId → Room → Type 0
IsExamined net j v None w = IsHeld net v.potentials j × (w ≡ v)
IsExamined net j v (Some node) w = IsLowered net j v node.0 w
