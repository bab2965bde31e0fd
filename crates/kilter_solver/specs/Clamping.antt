-- Clamping: each flow moves to the nearest one that is on its curve with the tension.
use Rattle.std.specs.Prelude.{◌≡◌, ◌≢◌, ℕ, ◌==◌, ◌+◌, ◌*◌, ◌<◌, ◌≤◌, ℤ, pos, ◌+ℤ◌, ◌-ℤ◌, List, length, unsigned_abs}
use Rattle.theory.specs.declared.ext.Ext.{Ext}
use Rattle.theory.specs.Limits.{IsWithin, number_most}
use Rattle.theory.specs.Sums.{counted, total_below}
use Rattle.theory.specs.Readings.{IsUnder, IsOver}
use Rattle.theory.specs.OnCurve.{IsOnCurve}
use Rattle.theory.specs.Network.{«at», tail, head, list_at}
use Rattle.theory.specs.Conserved.{tension}
use Rattle.net_incidence.specs.Graph.{Graph, bare}
use Rattle.painted_search.specs.Room.{Room}
use Rattle.curve_views.specs.Levels.{HasFlowNear}
use Rattle.kilter_solver.specs.Ranges.{shift_most, reach_most, excess_most, far_most}
use Rattle.kilter_solver.specs.Excess.{excess, AreExcesses, surpluses}

-- some number is between two ends, no further from x than this
pub record HasNear (most : ℕ) (low high : Ext) (x : ℤ) : Type 0 where
  pub some : ℤ
  pub under : IsUnder low some
  pub over : IsOver high some
  pub near : IsWithin most (some -ℤ x)

-- z is between the two ends, and no number between them is nearer to x
pub record IsClosest (low high : Ext) (x z : ℤ) : Type 0 where
  pub under : IsUnder low z
  pub over : IsOver high z
  pub closest : (most : ℕ) (y : ℤ) → IsUnder low y → IsOver high y → IsWithin most (y -ℤ x) → IsWithin most (z -ℤ x)

-- z is on the curve with the tension, and no such flow is nearer to x
pub record IsClosestFlow (items : List Ext) (x v z : ℤ) : Type 0 where
  pub pair : IsOnCurve 1 items z v
  pub closest : (most : ℕ) (y : ℤ) → IsOnCurve 1 items y v → IsWithin most (y -ℤ x) → IsWithin most (z -ℤ x)

-- ---- a room to be clamped

pub record IsLoose (g : Graph) (lists : List (List Ext)) (w : Room) : Type 0 where
  pub same_nodes : w.nodes ≡ g.nodes
  pub same_arcs : w.arcs ≡ length g.arcs
  pub one_list_each : length lists ≡ length g.arcs
  pub excesses : AreExcesses (bare g) («at» w.flows) (excess w)
  pub small : (i : ℕ) → i < g.nodes → IsWithin excess_most (excess w i)
  pub flows : (j : ℕ) → IsWithin far_most («at» w.flows j)
  pub potentials : (i : ℕ) → IsWithin reach_most («at» w.potentials i)
  pub near : (j : ℕ) → j < length g.arcs → HasFlowNear shift_most (list_at lists j) («at» w.flows j) (tension (bare g) («at» w.potentials) j)

-- by how much flows differ, on the first n arcs together
abbrev pub shifts : ℕ → List ℤ → List ℤ → ℕ
shifts n x y = total_below n (λ j. unsigned_abs («at» y j -ℤ «at» x j))

-- nothing but flows and excesses differs
pub record IsSameButBalance (v w : Room) : Type 0 where
  pub nodes : w.nodes ≡ v.nodes
  pub arcs : w.arcs ≡ v.arcs
  pub potentials : w.potentials ≡ v.potentials

-- the first n flows are clamped
pub record IsClampedBelow (n : ℕ) (g : Graph) (lists : List (List Ext)) (v w : Room) : Type 0 where
  pub same : IsSameButBalance v w
  pub excesses : AreExcesses (bare g) («at» w.flows) (excess w)
  pub small : (i : ℕ) → i < g.nodes → IsWithin (excess_most + n * shift_most) (excess w i)
  pub closest : (j : ℕ) → j < n → IsClosestFlow (list_at lists j) («at» v.flows j) (tension (bare g) («at» v.potentials) j) («at» w.flows j)
  pub stays : (j : ℕ) → n ≤ j → «at» w.flows j ≡ «at» v.flows j
  pub surplus : surpluses g.nodes (excess w) ≤ surpluses g.nodes (excess v) + shifts n v.flows w.flows

-- ---- one arc

pub record IsClampable (g : Graph) (lists : List (List Ext)) (w : Room) (j : ℕ) : Type 0 where
  pub same_nodes : w.nodes ≡ g.nodes
  pub same_arcs : w.arcs ≡ length g.arcs
  pub one_list_each : length lists ≡ length g.arcs
  pub small : (i : ℕ) → i < g.nodes → IsWithin (far_most + excess_most) (excess w i)
  pub flow : IsWithin far_most («at» w.flows j)
  pub potentials : (i : ℕ) → IsWithin reach_most («at» w.potentials i)
  pub near : HasFlowNear shift_most (list_at lists j) («at» w.flows j) (tension (bare g) («at» w.potentials) j)

-- flow j has moved by d, and the excesses at its ends with it
pub record IsShifted (g : Graph) (j : ℕ) (d : ℤ) (v w : Room) : Type 0 where
  pub same : IsSameButBalance v w
  pub here : «at» w.flows j ≡ «at» v.flows j +ℤ d
  pub others : (k : ℕ) → k ≢ j → «at» w.flows k ≡ «at» v.flows k
  pub excesses : (i : ℕ) → i < g.nodes
      → excess w i ≡ (excess v i -ℤ counted (tail (bare g) j == i) d) +ℤ counted (head (bare g) j == i) d

pub record IsClampedOne (g : Graph) (lists : List (List Ext)) (j : ℕ) (v w : Room) : Type 0 where
  pub shift : ℤ
  pub shifted : IsShifted g j shift v w
  pub small : IsWithin shift_most shift
  pub closest : IsClosestFlow (list_at lists j) («at» v.flows j) (tension (bare g) («at» v.potentials) j) («at» w.flows j)

-- ---- before and after

-- the first n flows are 0
pub record IsCleared (n : ℕ) (v w : Room) : Type 0 where
  pub same : IsSameButBalance v w
  pub scratch : w.scratch ≡ v.scratch
  pub none : (j : ℕ) → j < n → «at» w.flows j ≡ pos 0

-- the first n excesses are 0 too
pub record IsClearedBelow (n : ℕ) (v w : Room) : Type 0 where
  pub same : IsSameButBalance v w
  pub flows : w.flows ≡ v.flows
  pub none : (i : ℕ) → i < n → excess w i ≡ pos 0

-- all flows and excesses are 0
pub record IsBegun (v w : Room) : Type 0 where
  pub same : IsSameButBalance v w
  pub flows : (j : ℕ) → «at» w.flows j ≡ pos 0
  pub excesses : (i : ℕ) → i < v.nodes → excess w i ≡ pos 0

-- the potentials of the first n nodes have lost an amount
pub record IsGroundedBelow (n : ℕ) (base : ℤ) (v w : Room) : Type 0 where
  pub nodes : w.nodes ≡ v.nodes
  pub arcs : w.arcs ≡ v.arcs
  pub flows : w.flows ≡ v.flows
  pub reached : w.reached ≡ v.reached
  pub lost : (i : ℕ) → i < n → «at» w.potentials i ≡ «at» v.potentials i -ℤ base
  pub stays : (i : ℕ) → n ≤ i → «at» w.potentials i ≡ «at» v.potentials i

-- potentials as the pass of tensions leaves them
pub record AreNear (nodes : ℕ) (u : List ℤ) : Type 0 where
  pub within : (i : ℕ) → i < nodes → IsWithin (nodes * number_most) («at» u i)
