-- Flows on the way to their domains: conserved, and none further from 0 than a bound less all that is still lacking. Each unit
-- that the violations fall by moves a flow by a unit at most.
use Rattle.std.specs.Prelude.{◌≡◌, ◌≢◌, ℕ, ◌+◌, ◌*◌, ◌≤◌, ◌<◌, ℤ, pos, ◌+ℤ◌, ◌≤ℤ◌, List, length}
use Rattle.theory.specs.declared.ext.Ext.{Ext}
use Rattle.theory.specs.declared.network.Step.{Step}
use Rattle.theory.specs.Network.{«at», list_at}
use Rattle.theory.specs.Conserved.{IsConserved}
use Rattle.theory.specs.Circuit.{step}
use Rattle.net_incidence.specs.Graph.{Graph, bare}
use Rattle.painted_search.specs.Room.{Room}
use Rattle.feasible_flow.specs.Violations.{violation_at, total_violation, near_most, HasRoom}

pub record IsUnderWay (g : Graph) (lists : List (List Ext)) (bound : ℕ) (x : List ℤ) : Type 0 where
  pub few : bound ≤ near_most
  pub one_each : length x ≡ length g.arcs
  pub conserved : IsConserved (bare g) («at» x)
  pub high : (j : ℕ) → («at» x j +ℤ pos (total_violation (length g.arcs) lists x)) ≤ℤ pos bound
  pub low : (j : ℕ) → pos (total_violation (length g.arcs) lists x) ≤ℤ («at» x j +ℤ pos bound)

-- no violation is greater than it was
abbrev pub AreNoFurther : List (List Ext) → List ℤ → List ℤ → Type 0
AreNoFurther lists x y = (j : ℕ) → violation_at lists y j ≤ violation_at lists x j

-- still under way, and the total violation is less
pub record IsNearer (g : Graph) (lists : List (List Ext)) (bound : ℕ) (x y : List ℤ) : Type 0 where
  pub under_way : IsUnderWay g lists bound y
  pub no_further : AreNoFurther lists x y
  pub falls : total_violation (length g.arcs) lists y + 1 ≤ total_violation (length g.arcs) lists x

-- each step of the walk has room for the amount
abbrev pub AllHaveRoom : List (List Ext) → List ℤ → List Step → ℕ → Type 0
AllHaveRoom lists x walk amount =
    (k : ℕ) → k < length walk → HasRoom (list_at lists (step walk k).arc.0) («at» x (step walk k).arc.0) (step walk k).forward amount

-- the walk passes no arc twice
abbrev pub ArcsDiffer : List Step → Type 0
ArcsDiffer walk = (i k : ℕ) → i < k → k < length walk → (step walk i).arc.0 ≢ (step walk k).arc.0

-- ---- a room whose flows alone were written

pub record IsSameButFlows (v w : Room) : Type 0 where
  pub nodes : w.nodes ≡ v.nodes
  pub arcs : w.arcs ≡ v.arcs
  pub potentials : w.potentials ≡ v.potentials
  pub walk : w.walk ≡ v.walk

-- ---- what it costs

-- the most readings of a look at one arc: those of a level's domain
abbrev pub look_cost : ℕ
look_cost = 3

-- of a look at one arc, a search and a look along the path that it found
abbrev pub round_cost : ℕ → ℕ → ℕ
round_cost n m = (2 * m + n + 1) * look_cost

-- the most readings that the violations can still cost, with a round for each unit
abbrev pub readings_left : Graph → List (List Ext) → List ℤ → ℕ
readings_left g lists x = total_violation (length g.arcs) lists x * round_cost g.nodes (length g.arcs)
