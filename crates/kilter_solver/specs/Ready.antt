-- A room whose flows and potentials are on the curves of a net, in ranges where all can be computed.
use Rattle.std.specs.Prelude.{◌≡◌, ℕ, ◌<◌, ℤ, List, length}
use Rattle.theory.specs.declared.ext.Ext.{Ext}
use Rattle.theory.specs.Limits.{IsWithin, arg_most}
use Rattle.theory.specs.OnCurve.{IsOnCurve}
use Rattle.theory.specs.Network.{«at», list_at}
use Rattle.theory.specs.Conserved.{tension}
use Rattle.net_incidence.specs.Graph.{Graph, bare}
use Rattle.painted_search.specs.Room.{Room}
use Rattle.kilter_solver.specs.Ranges.{reach_most}

pub record AreOnCurves (g : Graph) (lists : List (List Ext)) (x u : List ℤ) : Type 0 where
  pub pairs : (j : ℕ) → j < length g.arcs → IsOnCurve 1 (list_at lists j) («at» x j) (tension (bare g) («at» u) j)

pub record IsReady (g : Graph) (lists : List (List Ext)) (nodes arcs : ℕ) (x u : List ℤ) : Type 0 where
  pub same_nodes : nodes ≡ g.nodes
  pub same_arcs : arcs ≡ length g.arcs
  pub one_list_each : length lists ≡ length g.arcs
  pub on_curves : AreOnCurves g lists x u
  pub flows : (j : ℕ) → IsWithin arg_most («at» x j)
  pub potentials : (i : ℕ) → IsWithin reach_most («at» u i)

abbrev pub Ready : Graph → List (List Ext) → Room → Type 0
Ready g lists w = IsReady g lists w.nodes w.arcs w.flows w.potentials
