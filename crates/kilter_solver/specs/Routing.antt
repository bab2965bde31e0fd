-- Routes: how flow goes from a node with a surplus to one that lacks something. First the potentials fall so that each label is
-- tight, which means that one unit more in its direction stays on the curve; then as much as all labels have room for moves along
-- them.
use Rattle.std.specs.Prelude.{◌≡◌, ◌≢◌, ◌⊎◌, ℕ, zero, suc, ◌+◌, ◌*◌, ◌<◌, ◌≤◌, ◌==◌, ℤ, pos, ◌+ℤ◌, ◌-ℤ◌, ◌≤ℤ◌, ◌<ℤ◌, Bool, true, false, IsTrue, Option, Some, None, List, length}
use Rattle.theory.specs.declared.ext.Ext.{Ext}
use Rattle.theory.specs.declared.network.Step.{Step}
use Rattle.theory.specs.Sums.{counted}
use Rattle.theory.specs.Limits.{IsWithin, number_most, arg_most}
use Rattle.theory.specs.Network.{Network, «at», list_at}
use Rattle.theory.specs.Conserved.{divergence}
use Rattle.theory.specs.Cut.{holds}
use Rattle.theory.specs.Circuit.{begin_of, end_of}
use Rattle.net_incidence.specs.Graph.{Graph, bare}
use Rattle.painted_search.specs.Room.{Room}
use Rattle.painted_search.specs.Path.{label_at}
use Rattle.kilter_solver.specs.Ranges.{begin_most, far_most, ungrounded_most}
use Rattle.kilter_solver.specs.Along.{rise, IsPairAlong, moved_by, moved}
use Rattle.kilter_solver.specs.Excess.{excess, AreExcesses, surpluses}
use Rattle.kilter_solver.specs.Ready.{AreOnCurves}
use Rattle.kilter_solver.specs.Spread.{key}

-- ---- potentials fall

-- a settled node falls to its level less the bound
abbrev pub fallen : Bool → ℤ → ℤ → ℤ → ℤ
fallen true u k bound = (u +ℤ k) -ℤ bound
fallen false u k bound = u

abbrev pub fallen_at : Room → ℤ → ℕ → ℤ
fallen_at w bound i = fallen (holds w.reached i) («at» w.potentials i) (key w i) bound

-- nothing but potentials differs
pub record IsSameButPotentials (v w : Room) : Type 0 where
  pub nodes : w.nodes ≡ v.nodes
  pub arcs : w.arcs ≡ v.arcs
  pub flows : w.flows ≡ v.flows
  pub reached : w.reached ≡ v.reached
  pub labels : w.labels ≡ v.labels
  pub scratch : w.scratch ≡ v.scratch

-- the potentials of the first n nodes have fallen
pub record IsFallenBelow (n : ℕ) (bound : ℤ) (v w : Room) : Type 0 where
  pub same : IsSameButPotentials v w
  pub fell : (i : ℕ) → i < n → «at» w.potentials i ≡ fallen_at v bound i
  pub stays : (i : ℕ) → n ≤ i → «at» w.potentials i ≡ «at» v.potentials i

-- a room whose potentials have fallen, where flow is to be moved
pub record IsMovable (g : Graph) (lists : List (List Ext)) (w : Room) : Type 0 where
  pub same_nodes : w.nodes ≡ g.nodes
  pub same_arcs : w.arcs ≡ length g.arcs
  pub one_list_each : length lists ≡ length g.arcs
  pub on_curves : AreOnCurves g lists w.flows w.potentials
  pub flows : (j : ℕ) → IsWithin arg_most («at» w.flows j)
  pub potentials : (i : ℕ) → IsWithin ungrounded_most («at» w.potentials i)

-- ---- a route of tight labels

-- the nodes that a route may pass: the settled ones and its target
abbrev pub IsOn : Room → ℕ → ℕ → Type 0
IsOn w target i = IsTrue (holds w.reached i) ⊎ (i ≡ target)

pub record IsTight (g : Graph) (lists : List (List Ext)) (w : Room) (rank : ℕ → ℕ) (i : ℕ) (s : Step) : Type 0 where
  pub label : label_at w.labels i ≡ Some s
  pub there : s.arc.0 < length g.arcs
  pub ends : end_of (bare g) s ≡ i
  pub done : IsTrue (holds w.reached (begin_of (bare g) s))
  pub deeper : rank i ≡ rank (begin_of (bare g) s) + 1
  pub next : IsPairAlong (list_at lists s.arc.0) s.forward (moved s.forward («at» w.flows s.arc.0)) (rise (bare g) («at» w.potentials) s)

pub record TightTo (g : Graph) (lists : List (List Ext)) (w : Room) (rank : ℕ → ℕ) (i : ℕ) : Type 0 where
  pub last : Step
  pub is : IsTight g lists w rank i last

pub record IsRoute (g : Graph) (lists : List (List Ext)) (source target : ℕ) (w : Room) : Type 0 where
  pub rank : ℕ → ℕ
  pub short : (i : ℕ) → IsOn w target i → rank i ≤ g.nodes
  pub ways : (i : ℕ) → IsOn w target i → i ≢ source → TightTo g lists w rank i

-- where a label begins, or the node itself where there is none
abbrev pub begin_or : Network → ℕ → Option Step → ℕ
begin_or net i None = i
begin_or net i (Some s) = begin_of net s

-- the node that lies k labels back from the target
abbrev pub back : Network → List (Option Step) → ℕ → ℕ → ℕ
back net labels target zero = target
back net labels target (suc k) = let i = back net labels target k in begin_or net i (label_at labels i)

-- the flow of the step's arc may move in its direction by every amount up to this one
pub record IsRoomOf (g : Graph) (lists : List (List Ext)) (w : Room) (amount : ℤ) (s : Step) : Type 0 where
  pub pairs : (z : ℤ) → pos 0 ≤ℤ z → z ≤ℤ amount
      → IsPairAlong (list_at lists s.arc.0) s.forward (moved_by z s.forward («at» w.flows s.arc.0)) (rise (bare g) («at» w.potentials) s)

-- the same for the label of node i
abbrev pub HasRoom : Graph → List (List Ext) → Room → ℤ → ℕ → Type 0
HasRoom g lists w amount i = (s : Step) → label_at w.labels i ≡ Some s → IsRoomOf g lists w amount s

-- all labels from the target back to the source have room
pub record HasRoomBack (g : Graph) (lists : List (List Ext)) (source target : ℕ) (w : Room) (amount : ℤ) : Type 0 where
  pub count : ℕ
  pub ends : back (bare g) w.labels target count ≡ source
  pub room : (k : ℕ) → k < count → HasRoom g lists w amount (back (bare g) w.labels target k)

-- ---- flow moves

-- the greatest magnitude of a flow on the way
abbrev pub flow_reach : ℕ
flow_reach = arg_most + 1

-- the amount at node k, 0 elsewhere
abbrev pub amount_at : ℤ → ℕ → ℕ → ℤ
amount_at amount k i = counted (k == i) amount

-- nothing but flows differs
pub record IsSameButFlows (v w : Room) : Type 0 where
  pub nodes : w.nodes ≡ v.nodes
  pub arcs : w.arcs ≡ v.arcs
  pub potentials : w.potentials ≡ v.potentials
  pub reached : w.reached ≡ v.reached
  pub labels : w.labels ≡ v.labels
  pub scratch : w.scratch ≡ v.scratch

-- the amount has moved from a node to the target
pub record IsPushed (g : Graph) (lists : List (List Ext)) (amount : ℤ) (from target : ℕ) (v w : Room) : Type 0 where
  pub same : IsSameButFlows v w
  pub on_curves : AreOnCurves g lists w.flows w.potentials
  pub low : (j : ℕ) → «at» v.flows j ≤ℤ («at» w.flows j +ℤ amount)
  pub high : (j : ℕ) → «at» w.flows j ≤ℤ («at» v.flows j +ℤ amount)
  pub divergences : (i : ℕ) → i < g.nodes
      → (divergence (bare g) («at» w.flows) i +ℤ amount_at amount target i) ≡ (divergence (bare g) («at» v.flows) i +ℤ amount_at amount from i)

-- ---- a search and its route

-- a room where routes can be sought
pub record IsBalancing (g : Graph) (lists : List (List Ext)) (w : Room) : Type 0 where
  pub same_nodes : w.nodes ≡ g.nodes
  pub same_arcs : w.arcs ≡ length g.arcs
  pub one_list_each : length lists ≡ length g.arcs
  pub on_curves : AreOnCurves g lists w.flows w.potentials
  pub excesses : AreExcesses (bare g) («at» w.flows) (excess w)

-- how far a potential falls at most below one that lacks something
abbrev pub fall_most : Graph → ℕ
fall_most g = 2 * (number_most * g.nodes)

-- a potential stays, or is no lower than that of a node that lacked something less the greatest fall
pub record IsNotFar (g : Graph) (v w : Room) (i : ℕ) : Type 0 where
  pub far : («at» w.potentials i ≡ «at» v.potentials i)
      ⊎ ((t : ℕ) × (t < g.nodes) × (excess v t <ℤ pos 0) × («at» v.potentials t ≤ℤ («at» w.potentials i +ℤ pos (fall_most g))))

-- some of a surplus has been sent
pub record IsSent (g : Graph) (v w : Room) : Type 0 where
  pub amount : ℕ
  pub some : 1 ≤ amount
  pub fewer : surpluses g.nodes (excess w) + amount ≡ surpluses g.nodes (excess v)
  pub moves : (j : ℕ) → IsWithin amount («at» w.flows j -ℤ «at» v.flows j)
  pub falls : (i : ℕ) → «at» w.potentials i ≤ℤ «at» v.potentials i
  pub lacked : (i : ℕ) → i < g.nodes → excess w i <ℤ pos 0 → excess v i <ℤ pos 0
  pub lacking : (i : ℕ) → i < g.nodes → excess w i <ℤ pos 0 → «at» w.potentials i ≡ «at» v.potentials i
  pub near : (i : ℕ) → IsNotFar g v w i
  pub sated : (i : ℕ) → i < g.nodes → excess v i ≤ℤ pos 0 → excess w i ≤ℤ pos 0

-- ---- routes from all surpluses

-- some units of surplus have been sent
pub record Routes (g : Graph) (v w : Room) : Type 0 where
  pub fewer : surpluses g.nodes (excess w) ≤ surpluses g.nodes (excess v)
  pub moves_up : (j : ℕ) → («at» w.flows j +ℤ pos (surpluses g.nodes (excess w))) ≤ℤ («at» v.flows j +ℤ pos (surpluses g.nodes (excess v)))
  pub moves_down : (j : ℕ) → («at» v.flows j +ℤ pos (surpluses g.nodes (excess w))) ≤ℤ («at» w.flows j +ℤ pos (surpluses g.nodes (excess v)))
  pub falls : (i : ℕ) → «at» w.potentials i ≤ℤ «at» v.potentials i
  pub lacked : (i : ℕ) → i < g.nodes → excess w i <ℤ pos 0 → excess v i <ℤ pos 0
  pub lacking : (i : ℕ) → i < g.nodes → excess w i <ℤ pos 0 → «at» w.potentials i ≡ «at» v.potentials i
  pub near : (i : ℕ) → IsNotFar g v w i
  pub sated : (i : ℕ) → i < g.nodes → excess v i ≤ℤ pos 0 → excess w i ≤ℤ pos 0

-- where routes begin: flows, potentials and surpluses that leave room
pub record IsSafe (g : Graph) (w : Room) : Type 0 where
  pub flows : (j : ℕ) → IsWithin far_most («at» w.flows j)
  pub potentials : (i : ℕ) → IsWithin begin_most («at» w.potentials i)
  pub surplus : surpluses g.nodes (excess w) ≤ far_most
