-- Levels of a balancing. Level k of a curve has its points divided by 2 ^ k. A net is balanced at its top level first, where every
-- point is -1, 0 or 1, and then level by level down to the curves themselves: from one level to the next the flows double, each is
-- then at most 1 from the curve of its arc, and so an arc makes one unit of surplus at most.
use Rattle.std.specs.Prelude.{◌≡◌, ℕ, zero, suc, ◌+◌, ◌*◌, ◌<◌, ◌≤◌, pos, ◌*ℤ◌, neg_ℤ, ◌≤ℤ◌, List, length, map}
use Rattle.theory.specs.declared.ext.Ext.{Ext}
use Rattle.theory.specs.Limits.{IsWithin, number_most}
use Rattle.theory.specs.Views.{level_items}
use Rattle.theory.specs.Network.{«at», list_at}
use Rattle.theory.specs.Conserved.{tension}
use Rattle.net_incidence.specs.Graph.{Graph, bare}
use Rattle.painted_search.specs.Room.{Room}
use Rattle.kilter_solver.specs.Excess.{excess, AreExcesses}
use Rattle.kilter_solver.specs.Ready.{AreOnCurves}
use Rattle.curve_views.specs.Levels.{HasFlowNear}
use Rattle.kilter_solver.specs.Clamping.{IsSameButBalance}

-- level k of each curve of a slice
abbrev pub levels_of : {C : Type 0} → (C → List Ext) → ℕ → List C → List (List Ext)
levels_of items k curves = map (λ c. level_items k (items c)) curves

-- the first n flows are twice what they were
pub record IsDoubledBelow (n : ℕ) (v w : Room) : Type 0 where
  pub same : IsSameButBalance v w
  pub scratch : w.scratch ≡ v.scratch
  pub twice : (j : ℕ) → j < n → «at» w.flows j ≡ pos 2 *ℤ «at» v.flows j
  pub stays : (j : ℕ) → n ≤ j → «at» w.flows j ≡ «at» v.flows j

-- the greatest magnitude of a flow when d levels are done: twice that of the level before, 1 for the clamping, and 1 for each unit
-- of surplus that is sent
unfoldable pub leveled_flow : ℕ → ℕ → ℕ
leveled_flow m zero = 0
leveled_flow m (suc d) = 2 * leveled_flow m d + (m + 1)

-- how far below 0 a potential is then at most: in a level it falls by twice the limit for each node at most, and it never rises
abbrev pub leveled_depth : ℕ → ℕ → ℕ
leveled_depth n d = (2 * d + 1) * (n * number_most)

-- d of the top + 1 levels are done: no node has a surplus or lacks anything, and each flow, doubled, is at most 1 from the curve of
-- the level that follows, if one does
pub record IsLeveled (g : Graph) (lists : List (List Ext)) (top d : ℕ) (w : Room) : Type 0 where
  pub same_nodes : w.nodes ≡ g.nodes
  pub same_arcs : w.arcs ≡ length g.arcs
  pub none : (i : ℕ) → i < g.nodes → excess w i ≡ pos 0
  pub excesses : AreExcesses (bare g) («at» w.flows) (excess w)
  pub flows : (j : ℕ) → IsWithin (leveled_flow (length g.arcs) d) («at» w.flows j)
  pub low : (i : ℕ) → neg_ℤ (pos (leveled_depth g.nodes d)) ≤ℤ «at» w.potentials i
  pub high : (i : ℕ) → «at» w.potentials i ≤ℤ pos (g.nodes * number_most)
  pub near : (k : ℕ) → k + d ≡ top → (j : ℕ) → j < length g.arcs
      → HasFlowNear 1 (level_items k (list_at lists j)) (pos 2 *ℤ «at» w.flows j) (tension (bare g) («at» w.potentials) j)
  pub pairs : d ≡ top + 1 → AreOnCurves g lists w.flows w.potentials

-- what one level reads at most, a reading of a level being three of the curve
abbrev pub level_share : ℕ → ℕ
level_share m = 9 * (m * (m + 1))
