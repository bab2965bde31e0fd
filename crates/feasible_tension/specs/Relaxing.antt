-- How potentials are lowered: in rounds, each of which examines every arc once. The clock counts examined arcs; the stamp of a
-- node is the clock when it was lowered last, 0 if it never was, and an arc was seen when it was examined last, 0 if never.
-- Both are spoken of in proofs alone: the program keeps neither.
use Rattle.std.specs.Prelude.{◌≡◌, ℕ, suc, ◌+◌, ◌-◌, ◌*◌, ◌%◌, ◌<◌, ◌≤◌, ◌==◌, if◌then◌else◌, ℤ, pos, neg_ℤ, ◌≤ℤ◌, Option, Some, None, IfSome, List, length}
use Rattle.theory.specs.declared.network.NodeId.{NodeId}
use Rattle.theory.specs.declared.network.Step.{Step}
use Rattle.theory.specs.Ends.{IsFinite}
use Rattle.theory.specs.Limits.{number_most}
use Rattle.theory.specs.Network.{Network, «at»}
use Rattle.theory.specs.Circuit.{begin_of, end_of, span_end}
use Rattle.painted_search.specs.Room.{Room}
use Rattle.painted_search.specs.Path.{label_at}
use Rattle.feasible_tension.specs.Back.{IsLabelled}
use Rattle.feasible_tension.specs.Bounds.{most_at, IsBound, IsHeld}

-- the place of an arc in a round, and the arc at a place (they are the same function): rounds go from the front and from the back in turn
abbrev pub place : ℕ → ℕ → ℕ → ℕ
place rounds arcs j = if rounds % 2 == 0 then j else (arcs - 1 - j)

-- What a label says of its node. The node was lowered to the step's bound, and only the node where the step begins can have
-- been lowered since. The stamp there is later than a round before the node's.
pub record IsLabelOf (net : Network) (u : List ℤ) (stamp : ℕ → ℕ) (i : ℕ) (s : Step) : Type 0 where
  pub there : s.arc.0 < length net.arcs
  pub ends : end_of net s ≡ i
  pub finite : IsFinite (span_end net s)
  pub least : most_at net u s ≤ℤ «at» u i
  pub tight : most_at net u s ≡ «at» u i → stamp (begin_of net s) < stamp i
  pub late : (b : ℕ) → suc b * length net.arcs < stamp i → b * length net.arcs < stamp (begin_of net s)

-- so many rounds are over, and in this one so many arcs are examined; `changed` is the node that it lowered last
pub record IsRelaxing (net : Network) (rounds examined : ℕ) (changed : Option NodeId) (w : Room) : Type 0 where
  pub stamp : ℕ → ℕ
  pub seen : ℕ → ℕ
  pub labels : (i : ℕ) (s : Step) → label_at w.labels i ≡ Some s → IsLabelOf net w.potentials stamp i s
  pub stamped : (i : ℕ) → 0 < stamp i → IsLabelled w.labels i
  pub unlabelled : (i : ℕ) → label_at w.labels i ≡ None → «at» w.potentials i ≡ pos 0
  pub past : (i : ℕ) → stamp i ≤ rounds * length net.arcs + examined
  pub seen_past : (j : ℕ) → seen j ≤ rounds * length net.arcs + examined
  pub seen_late : (j : ℕ) → j < length net.arcs → rounds * length net.arcs < seen j + length net.arcs
  pub seen_now : (j : ℕ) → j < length net.arcs → place rounds (length net.arcs) j < examined → rounds * length net.arcs < seen j
  pub bounds : (s : Step) → s.arc.0 < length net.arcs → stamp (begin_of net s) < seen s.arc.0 → IsBound net w.potentials s
  pub high : (i : ℕ) → «at» w.potentials i ≤ℤ pos 0
  pub low : (i : ℕ) → neg_ℤ (pos ((rounds * length net.arcs + examined) * number_most)) ≤ℤ «at» w.potentials i
  pub held : changed ≡ None → (j : ℕ) → j < length net.arcs → place rounds (length net.arcs) j < examined → IsHeld net w.potentials j
  pub late : IfSome changed (λ node. rounds * length net.arcs < stamp node.0)
  pub there : IfSome changed (λ node. node.0 < net.nodes)
