-- A binary heap of nodes by their keys, in the queue words of a room: the nodes in slots, the slot of each node, the count of the
-- nodes held. The children of slot q are the slots 2q + 1 and 2q + 2.
use Rattle.std.specs.Prelude.{◌≡◌, ◌≢◌, ◌↔◌, ◌⊎◌, ℕ, ◌+◌, ◌*◌, ◌<◌, ◌≤◌, ℤ, ◌≤ℤ◌, ◌<ℤ◌, false, IsTrue, Option, Some, None, slice_index_or}
use Rattle.theory.specs.declared.network.NodeId.{NodeId}
use Rattle.theory.specs.Cut.{holds}
use Rattle.painted_search.specs.Room.{Room}
use Rattle.painted_search.specs.Writes.{with_scratch}
use Rattle.kilter_solver.specs.Spread.{key, is_near, IsSameButQueue}

abbrev pub slot : Room → ℕ → ℕ
slot w k = slice_index_or w.queue k 0

abbrev pub place : Room → ℕ → ℕ
place w i = slice_index_or w.queue (w.nodes + i) 0

abbrev pub size : Room → ℕ
size w = slice_index_or w.queue (2 * w.nodes) 0

abbrev pub slot_key : Room → ℕ → ℤ
slot_key w k = key w (slot w k)

-- the slots hold nodes, each once, and each node's place is its slot
pub record IsFilled (w : Room) : Type 0 where
  pub few : size w ≤ w.nodes
  pub there : (k : ℕ) → k < size w → slot w k < w.nodes
  pub placed : (k : ℕ) → k < size w → place w (slot w k) ≡ k

-- node i is in the queue
pub record IsQueued (w : Room) (i : ℕ) : Type 0 where
  pub within : place w i < size w
  pub is : slot w (place w i) ≡ i

-- every child is at least its parent
pub record IsHeap (w : Room) : Type 0 where
  pub filled : IsFilled w
  pub ordered : (q k : ℕ) → k < size w → 2 * q + 1 ≤ k → k ≤ 2 * q + 2 → slot_key w q ≤ℤ slot_key w k

-- the slots below slot k and that above it, if it is passed over
pub record IsBridged (w : Room) (k : ℕ) : Type 0 where
  pub over : (q c : ℕ) → c < size w → 2 * q + 1 ≤ k → k ≤ 2 * q + 2 → 2 * k + 1 ≤ c → c ≤ 2 * k + 2 → slot_key w q ≤ℤ slot_key w c

-- a heap but for slot k, which may be less than its parent
pub record IsHeapUpTo (w : Room) (k : ℕ) : Type 0 where
  pub filled : IsFilled w
  pub bridged : IsBridged w k
  pub ordered : (q c : ℕ) → c < size w → 2 * q + 1 ≤ c → c ≤ 2 * q + 2 → c ≢ k → slot_key w q ≤ℤ slot_key w c

-- a heap but for slot k, which may be greater than a child
pub record IsHeapBelow (w : Room) (k : ℕ) : Type 0 where
  pub filled : IsFilled w
  pub bridged : IsBridged w k
  pub ordered : (q c : ℕ) → c < size w → 2 * q + 1 ≤ c → c ≤ 2 * q + 2 → q ≢ k → slot_key w q ≤ℤ slot_key w c

-- a child of slot k that is less than it and not above another child; None where no child is less
pub record IsLeastChild (w : Room) (k c : ℕ) : Type 0 where
  pub there : c < size w
  pub first : 2 * k + 1 ≤ c
  pub second : c ≤ 2 * k + 2
  pub less : slot_key w c <ℤ slot_key w k
  pub least : (d : ℕ) → d < size w → 2 * k + 1 ≤ d → d ≤ 2 * k + 2 → slot_key w c ≤ℤ slot_key w d

abbrev pub IsLeastChildOf : Room → ℕ → Option ℕ → Type 0
IsLeastChildOf w k None = (d : ℕ) → d < size w → 2 * k + 1 ≤ d → d ≤ 2 * k + 2 → slot_key w k ≤ℤ slot_key w d
IsLeastChildOf w k (Some c) = IsLeastChild w k c

-- ---- writes

-- slot k is given to node i
pub record IsPut (v w : Room) (k i : ℕ) : Type 0 where
  pub same : IsSameButQueue v w
  pub many : size w ≡ size v
  pub here : slot w k ≡ i
  pub its_place : place w i ≡ k
  pub slots : (j : ℕ) → j < v.nodes → j ≢ k → slot w j ≡ slot v j
  pub places : (j : ℕ) → j < v.nodes → j ≢ i → place w j ≡ place v j

-- n nodes are held
pub record IsResized (v w : Room) (n : ℕ) : Type 0 where
  pub same : IsSameButQueue v w
  pub many : size w ≡ n
  pub slots : (j : ℕ) → j < v.nodes → slot w j ≡ slot v j
  pub places : (j : ℕ) → j < v.nodes → place w j ≡ place v j

-- the nodes in slots a and b have changed places
pub record IsSwapped (v w : Room) (a b : ℕ) : Type 0 where
  pub same : IsSameButQueue v w
  pub many : size w ≡ size v
  pub first : slot w a ≡ slot v b
  pub second : slot w b ≡ slot v a
  pub first_place : place w (slot v b) ≡ a
  pub second_place : place w (slot v a) ≡ b
  pub slots : (j : ℕ) → j < v.nodes → j ≢ a → j ≢ b → slot w j ≡ slot v j
  pub places : (j : ℕ) → j < v.nodes → j ≢ slot v a → j ≢ slot v b → place w j ≡ place v j

-- the nodes held are the same ones
pub record IsShuffled (v w : Room) : Type 0 where
  pub same : IsSameButQueue v w
  pub many : size w ≡ size v
  pub held : (i : ℕ) → IsQueued w i ↔ IsQueued v i

-- node i has come into the queue with key z
pub record IsInserted (v w : Room) (i : ℕ) (z : ℤ) : Type 0 where
  pub same : IsSameButQueue (with_scratch v (v.nodes + i) z) w
  pub held : (j : ℕ) → IsQueued w j ↔ (IsQueued v j ⊎ (j ≡ i))

-- node i has got the lesser key z
pub record IsDecreased (v w : Room) (i : ℕ) (z : ℤ) : Type 0 where
  pub same : IsSameButQueue (with_scratch v (v.nodes + i) z) w
  pub held : (j : ℕ) → IsQueued w j ↔ IsQueued v j

-- the node in the first slot has left the queue
pub record IsTaken (v w : Room) : Type 0 where
  pub same : IsSameButQueue v w
  pub held : (j : ℕ) → IsQueued w j ↔ (IsQueued v j × (j ≢ slot v 0))

-- the node in the first slot; None where the queue is empty
abbrev pub IsFirstOf : Room → Option NodeId → Type 0
IsFirstOf w None = size w ≡ 0
IsFirstOf w (Some node) = (0 < size w) × (node.0 ≡ slot w 0)

-- ---- the queue of a search

-- the queue is a heap of the nodes that were met and aren't settled
pub record IsWaiting (w : Room) : Type 0 where
  pub heap : IsHeap w
  pub queued : (i : ℕ) → IsTrue (is_near w i) → holds w.reached i ≡ false → IsQueued w i
  pub near : (i : ℕ) → IsQueued w i → IsTrue (is_near w i)
  pub waits : (i : ℕ) → IsQueued w i → holds w.reached i ≡ false
