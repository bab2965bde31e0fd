-- Flows level by level: inside the domains of one level, doubled, at most 1 outside those of the next. The domains of the top
-- level hold -1, 0 or 1, and those of level 0 are the domains themselves.
use Rattle.std.specs.Prelude.{◌≡◌, ℕ, zero, suc, ◌+◌, ◌*◌, ◌-◌, ◌≤◌, ◌<◌, ℤ, pos, ◌*ℤ◌, List, length, map}
use Rattle.theory.specs.declared.ext.Ext.{Ext}
use Rattle.theory.specs.Network.{«at», list_at}
use Rattle.theory.specs.Limits.{level_most}
use Rattle.theory.specs.Conserved.{IsConserved}
use Rattle.theory.specs.Views.{level_items}
use Rattle.net_incidence.specs.Graph.{Graph, bare}
use Rattle.painted_search.specs.Room.{Room}
use Rattle.feasible_flow.specs.Violations.{violation, violation_at, total_violation, violation_most, AreNear}
use Rattle.feasible_flow.specs.UnderWay.{round_cost, look_cost, IsSameButFlows}

-- the lists of curves at a level
abbrev pub levels_of : {A : Type 0} → (A → List Ext) → ℕ → List A → List (List Ext)
levels_of items k curves = map (λ c. level_items k (items c)) curves

-- the greatest flow of m arcs once d levels are done: none yet, then twice as much and a unit for each arc
abbrev pub leveled : ℕ → ℕ → ℕ
leveled m zero = 0
leveled m (suc d) = 2 * leveled m d + m

-- the greatest flow on the way at level k
abbrev pub flow_limit : ℕ → ℕ → ℕ
flow_limit m k = leveled m (suc (level_most - k))

-- ---- between two levels

-- where d levels are done, from the top on: conserved, small, and, doubled, at most 1 from the domains of the level that follows
pub record IsSettled (g : Graph) (lists : List (List Ext)) (d : ℕ) (x : List ℤ) : Type 0 where
  pub one_each : length x ≡ length g.arcs
  pub conserved : IsConserved (bare g) («at» x)
  pub small : AreNear (leveled (length g.arcs) d) x
  pub near : (k : ℕ) → k + d ≡ level_most → (j : ℕ) → j < length g.arcs → violation (level_items k (list_at lists j)) (pos 2 *ℤ «at» x j) ≤ 1
  pub inside : d ≡ level_most + 1 → (j : ℕ) → j < length g.arcs → violation_at lists x j ≡ 0

-- every flow of the room is doubled
pub record IsDoubled (v w : Room) : Type 0 where
  pub twice : (j : ℕ) → «at» w.flows j ≡ pos 2 *ℤ «at» v.flows j
  pub same : IsSameButFlows v w

-- ---- where the pass begins

-- flows that the pass can go on from at level 0: conserved, not too far from 0, and lacking so little that it costs no more than the levels
pub record WillDo (g : Graph) (lists : List (List Ext)) (x : List ℤ) : Type 0 where
  pub conserved : IsConserved (bare g) («at» x)
  pub near : AreNear (violation_most (length g.arcs)) x
  pub little : total_violation (length g.arcs) lists x ≤ length g.arcs * level_most

-- ---- what it costs

-- the most readings of a level that begins with at most this violation: a round for each unit, and a last look at each arc
abbrev pub level_cost : ℕ → ℕ → ℕ → ℕ
level_cost n m violations = violations * round_cost n m + m * look_cost
