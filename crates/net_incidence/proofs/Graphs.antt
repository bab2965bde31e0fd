-- A graph is its nodes and arcs: of the facts that it carries there is only one proof. Each step over an arc begins and ends in
-- the graph.
use Rattle.std.proofs.Common.{◌≡◌, ℕ, ◌<◌, Bool, true, false, List, length, sym, ap, subst}
use Rattle.std.proofs.Props.{props}
use Rattle.theory.specs.declared.network.Arc.{Arc}
use Rattle.theory.specs.declared.network.Step.{Step}
use Rattle.theory.specs.Circuit.{begin_of, end_of}
use Rattle.net_incidence.specs.Graph.{AreArcs, Graph, bare}
use Rattle.net_incidence.specs.Incidence.{over}

abbrev graph : (nodes : ℕ) (arcs : List Arc) → AreArcs nodes arcs → Graph
graph nodes arcs good = record { nodes = nodes; arcs = arcs; good = good }

pub graph-same : (g h : Graph) → h.nodes ≡ g.nodes → h.arcs ≡ g.arcs → h ≡ g
graph-same g h nodes arcs =
    let one_proof : (q : AreArcs g.nodes g.arcs) → graph g.nodes g.arcs q ≡ g =
    (λ q. let one : IsProp (AreArcs g.nodes g.arcs) = hlevel props in ap (graph g.nodes g.arcs) (one q g.good)) in
    let with_nodes : (q : AreArcs h.nodes g.arcs) → graph h.nodes g.arcs q ≡ g =
    subst (λ (n : ℕ). (q : AreArcs n g.arcs) → graph n g.arcs q ≡ g) (sym nodes) one_proof in
    let with_arcs : (q : AreArcs h.nodes h.arcs) → graph h.nodes h.arcs q ≡ g =
    subst (λ (some : List Arc). (q : AreArcs h.nodes some) → graph h.nodes some q ≡ g) (sym arcs) with_nodes in
    with_arcs h.good

-- ---- the ends of a step

begins_over : (g : Graph) (j : ℕ) (forward : Bool) → j < length g.arcs → begin_of (bare g) (over j forward) < g.nodes
begins_over g j true there = g.good.tails j there
begins_over g j false there = g.good.heads j there

pub begin-in_graph : (g : Graph) (s : Step) → s.arc.0 < length g.arcs → begin_of (bare g) s < g.nodes
begin-in_graph g s there = begins_over g s.arc.0 s.forward there

ends_over : (g : Graph) (j : ℕ) (forward : Bool) → j < length g.arcs → end_of (bare g) (over j forward) < g.nodes
ends_over g j true there = g.good.heads j there
ends_over g j false there = g.good.tails j there

pub end-in_graph : (g : Graph) (s : Step) → s.arc.0 < length g.arcs → end_of (bare g) s < g.nodes
end-in_graph g s there = ends_over g s.arc.0 s.forward there
