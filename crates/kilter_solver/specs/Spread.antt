-- How a search for a cheapest route spreads from a node with a surplus. Each node that was met has a key, its distance from the
-- source over the steps' prices less their tensions, and a label, the step that leads to it; its level is its potential plus
-- the key, so along a label the level rises by the price. Marked nodes are settled: their keys are final, no met node that isn't
-- settled has a lesser one, and each step from them was tried. The keys stand in the second scratch word of each node.
use Rattle.std.specs.Prelude.{◌≡◌, ◌≢◌, ℕ, ◌+◌, ◌*◌, ◌<◌, ◌≤◌, ℤ, pos, ◌+ℤ◌, ◌-ℤ◌, ◌≤ℤ◌, ◌<ℤ◌, Bool, true, false, ◌||◌, IsTrue, Option, Some, None, List, length}
use Rattle.theory.specs.declared.ext.Ext.{Ext}
use Rattle.theory.specs.declared.network.NodeId.{NodeId}
use Rattle.theory.specs.declared.network.Step.{Step}
use Rattle.theory.specs.Limits.{IsWithin, number_most}
use Rattle.theory.specs.Network.{«at», list_at}
use Rattle.theory.specs.Cut.{holds}
use Rattle.theory.specs.Circuit.{begin_of, end_of}
use Rattle.net_incidence.specs.Graph.{Graph, bare}
use Rattle.painted_search.specs.Room.{Room}
use Rattle.painted_search.specs.Writes.{with_scratch, relabelled}
use Rattle.painted_search.specs.Path.{label_at}
use Rattle.kilter_solver.specs.Along.{rise, IsPairAlong, moved}
use Rattle.kilter_solver.specs.Excess.{excess}
use Rattle.kilter_solver.specs.Marks.{count_of}

abbrev pub key : Room → ℕ → ℤ
key w i = «at» w.scratch (w.nodes + i)

abbrev pub level : Room → ℕ → ℤ
level w i = «at» w.potentials i +ℤ key w i

abbrev pub is_label : Option Step → Bool
is_label None = false
is_label (Some s) = true

-- whether the search met the node
abbrev pub is_near : Room → ℕ → Bool
is_near w i = holds w.reached i || is_label (label_at w.labels i)

-- every tension along the step that is no less than it has now and not above the rise of the level, if its end was met, is on
-- the curve
pub record IsTried (g : Graph) (lists : List (List Ext)) (w : Room) (s : Step) : Type 0 where
  pub pairs : (t : ℤ) → rise (bare g) («at» w.potentials) s ≤ℤ t
      → (IsTrue (is_near w (end_of (bare g) s)) → t ≤ℤ (level w (end_of (bare g) s) -ℤ level w (begin_of (bare g) s)))
      → IsPairAlong (list_at lists s.arc.0) s.forward («at» w.flows s.arc.0) t

-- s leads to node i at the price by which the level rises
pub record IsWay (g : Graph) (lists : List (List Ext)) (w : Room) (rank : ℕ → ℕ) (i : ℕ) (s : Step) : Type 0 where
  pub label : label_at w.labels i ≡ Some s
  pub there : s.arc.0 < length g.arcs
  pub ends : end_of (bare g) s ≡ i
  pub done : IsTrue (holds w.reached (begin_of (bare g) s))
  pub deeper : rank i ≡ rank (begin_of (bare g) s) + 1
  pub next : IsPairAlong (list_at lists s.arc.0) s.forward (moved s.forward («at» w.flows s.arc.0)) (level w i -ℤ level w (begin_of (bare g) s))
  pub small : IsWithin number_most (level w i -ℤ level w (begin_of (bare g) s))

pub record WayTo (g : Graph) (lists : List (List Ext)) (w : Room) (rank : ℕ → ℕ) (i : ℕ) : Type 0 where
  pub last : Step
  pub is : IsWay g lists w rank i last

-- `opened` is the settled node whose steps are being tried, or the number of nodes where there is none
pub record Spread (g : Graph) (lists : List (List Ext)) (source opened : ℕ) (w : Room) : Type 0 where
  pub rank : ℕ → ℕ
  pub bound : ℤ
  pub root : IsTrue (holds w.reached source)
  pub root_key : key w source ≡ pos 0
  pub opened_done : opened < g.nodes → IsTrue (holds w.reached opened)
  pub opened_key : opened < g.nodes → key w opened ≡ bound
  pub lower : (i : ℕ) → IsTrue (holds w.reached i) → key w i ≤ℤ bound
  pub upper : (i : ℕ) → IsTrue (is_near w i) → holds w.reached i ≡ false → bound ≤ℤ key w i
  pub ways : (i : ℕ) → IsTrue (is_near w i) → i ≢ source → WayTo g lists w rank i
  pub tried : (s : Step) → s.arc.0 < length g.arcs → IsTrue (holds w.reached (begin_of (bare g) s)) → begin_of (bare g) s ≢ opened
      → IsTried g lists w s
  pub ranged : (i : ℕ) → IsTrue (is_near w i) → IsWithin (number_most * rank i) (level w i -ℤ level w source)
  pub near_rank : (i : ℕ) → IsTrue (is_near w i) → rank i ≤ count_of g.nodes w.reached
  pub done_rank : (i : ℕ) → IsTrue (holds w.reached i) → rank i + 1 ≤ count_of g.nodes w.reached

-- what a search leaves as it was
pub record IsSameState (v w : Room) : Type 0 where
  pub nodes : w.nodes ≡ v.nodes
  pub arcs : w.arcs ≡ v.arcs
  pub flows : w.flows ≡ v.flows
  pub potentials : w.potentials ≡ v.potentials
  pub excesses : (i : ℕ) → i < v.nodes → excess w i ≡ excess v i

-- a search goes on at one node: keys of settled nodes stay, others fall
pub record IsLater (v w : Room) : Type 0 where
  pub state : IsSameState v w
  pub reached : w.reached ≡ v.reached
  pub nearer : (i : ℕ) → IsTrue (is_near v i) → IsTrue (is_near w i)
  pub falls : (i : ℕ) → IsTrue (is_near v i) → key w i ≤ℤ key v i
  pub settled : (i : ℕ) → IsTrue (holds v.reached i) → key w i ≡ key v i

-- node i met by the step with this key
abbrev pub relaxed : Room → ℕ → Step → ℤ → Room
relaxed w i s z = relabelled (with_scratch w (w.nodes + i) z) i s

-- nothing but the queue differs
pub record IsSameButQueue (v w : Room) : Type 0 where
  pub nodes : w.nodes ≡ v.nodes
  pub arcs : w.arcs ≡ v.arcs
  pub flows : w.flows ≡ v.flows
  pub potentials : w.potentials ≡ v.potentials
  pub reached : w.reached ≡ v.reached
  pub labels : w.labels ≡ v.labels
  pub walk : w.walk ≡ v.walk
  pub scratch : w.scratch ≡ v.scratch

-- the lesser of the key offered and that of the node is kept
pub data IsImproved (v w : Room) (i : ℕ) (s : Step) (z : ℤ) : Type 0 where
  kept : w ≡ v → IsTrue (is_near v i) → key v i ≤ℤ z → IsImproved v w i s z
  lowered : IsSameButQueue (relaxed v i s z) w → (IsTrue (is_near v i) → z ≤ℤ key v i) → IsImproved v w i s z

-- node i was met, isn't settled, and has the least key of all such nodes
pub record IsNearest (w : Room) (i : ℕ) : Type 0 where
  pub there : i < w.nodes
  pub near : IsTrue (is_near w i)
  pub waits : holds w.reached i ≡ false
  pub least : (k : ℕ) → IsTrue (is_near w k) → holds w.reached k ≡ false → key w i ≤ℤ key w k

-- None where all met nodes are settled
abbrev pub IsNearestOf : Room → Option NodeId → Type 0
IsNearestOf w None = (k : ℕ) → IsTrue (is_near w k) → IsTrue (holds w.reached k)
IsNearestOf w (Some node) = IsNearest w node.0

-- a search has found a node that lacks something; no settled node does
pub record IsFound (g : Graph) (lists : List (List Ext)) (source : ℕ) (w : Room) (target : ℕ) : Type 0 where
  pub spread : Spread g lists source g.nodes w
  pub nearest : IsNearest w target
  pub lacks : excess w target <ℤ pos 0
  pub none_lacks : (i : ℕ) → IsTrue (holds w.reached i) → pos 0 ≤ℤ excess w i

-- a search has settled all nodes that it met, and none of them lacks something
pub record IsStuck (g : Graph) (lists : List (List Ext)) (source : ℕ) (w : Room) : Type 0 where
  pub spread : Spread g lists source g.nodes w
  pub all_settled : (i : ℕ) → IsTrue (is_near w i) → IsTrue (holds w.reached i)
  pub none_lacks : (i : ℕ) → IsTrue (holds w.reached i) → pos 0 ≤ℤ excess w i

abbrev pub IsOutcome : Graph → List (List Ext) → ℕ → Room → Option NodeId → Type 0
IsOutcome g lists source w None = IsStuck g lists source w
IsOutcome g lists source w (Some node) = IsFound g lists source w node.0
