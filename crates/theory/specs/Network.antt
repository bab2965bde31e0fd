-- Network: nodes 0 .. nodes - 1, arcs with their two ends, and a listed curve for each arc.
-- Flows and potentials are numbers for each arc and for each node: functions of the number. A list stands for the
-- function `at`, which is 0 past its end.
use Rattle.std.specs.Prelude.{◌≡◌, ◌≢◌, ℕ, ◌<◌, ℤ, pos, List, [], ◌∷◌, length, slice_index_or}
use Rattle.theory.specs.declared.ext.Ext.{Ext}
use Rattle.theory.specs.declared.ext.Ext.TheVariants.{At}
use Rattle.theory.specs.declared.network.Arc.{Arc}
use Rattle.theory.specs.Sums.{sum_below}
use Rattle.theory.specs.CurveList.{Listing, IsCurveList}

pub record Network : Type 0 where
  pub nodes : ℕ
  pub arcs : List Arc
  pub curves : List Listing

abbrev pub «at» : List ℤ → ℕ → ℤ
«at» xs j = slice_index_or xs j (pos 0)

abbrev pub arc_at : List Arc → ℕ → Arc
arc_at arcs j = slice_index_or arcs j (record { from = record { 0 = 0 }; to = record { 0 = 0 } })

-- the node that arc j leaves, and the node that it enters
abbrev pub tail : Network → ℕ → ℕ
tail net j = (arc_at net.arcs j).from.0

abbrev pub head : Network → ℕ → ℕ
head net j = (arc_at net.arcs j).to.0

abbrev pub curve : Network → ℕ → Listing
curve net j = slice_index_or net.curves j (record { items = At (pos 0) ∷ []; base = pos 0 })

-- curve lists alone, one for each arc: the list of arc j
abbrev pub list_at : List (List Ext) → ℕ → List Ext
list_at lists j = slice_index_or lists j (At (pos 0) ∷ [])

-- the sum over all arcs
abbrev pub over_arcs : Network → (ℕ → ℤ) → ℤ
over_arcs net f = sum_below (length net.arcs) f

-- a network as it should be: each arc joins two different nodes that are there, and has one curve
pub record IsNetwork (net : Network) : Type 0 where
  pub tails : (j : ℕ) → j < length net.arcs → tail net j < net.nodes
  pub heads : (j : ℕ) → j < length net.arcs → head net j < net.nodes
  pub no_loops : (j : ℕ) → j < length net.arcs → tail net j ≢ head net j
  pub one_curve_each : length net.curves ≡ length net.arcs
  pub curve_lists : (j : ℕ) → j < length net.arcs → IsCurveList (curve net j).items
