-- Grounded network of a model. The ground, node 0, is added; model node i becomes node i + 1. One arc a model node runs
-- from the ground to it with the supply's curve, so that a supply is a flow, and the model's arcs follow. The potential
-- of a node is then the tension of its ground arc. docs/FORMATS.md has the numbers and the printed names.
use Rattle.std.specs.Prelude.{◌≢◌, ℕ, zero, suc, ◌+◌, ◌-◌, ◌<◌, nat_lt, if◌then◌else◌, List, [], ◌++◌, map, length, slice_index_or, codes, pos}
use Rattle.std.specs.List.{enumerate_from}
use Rattle.theory.specs.declared.network.Arc.{Arc}
use Rattle.theory.specs.CurveList.{Listing, IsCurveList}
use Rattle.theory.specs.Network.{Network}

-- a model as its lists, in the order of its lines; names are bytes, ends are positions in the list of nodes
pub record NodeEntry : Type 0 where
  pub name : List ℕ
  pub supply : Listing

pub record ArcEntry : Type 0 where
  pub name : List ℕ
  pub from : ℕ
  pub to : ℕ
  pub curve : Listing

pub record Entries : Type 0 where
  pub nodes : List NodeEntry
  pub arcs : List ArcEntry

abbrev pub joining : ℕ → ℕ → Arc
joining i k = record { from = record { 0 = i }; to = record { 0 = k } }

abbrev pub ground_arcs : List NodeEntry → List Arc
ground_arcs nodes = map (λ numbered. joining 0 (numbered.0 + 1)) (enumerate_from 0 nodes)

abbrev pub model_arcs : List ArcEntry → List Arc
model_arcs arcs = map (λ entry. joining (entry.from + 1) (entry.to + 1)) arcs

abbrev pub grounded : Entries → Network
grounded m = record {
  nodes = length m.nodes + 1;
  arcs = ground_arcs m.nodes ++ model_arcs m.arcs;
  curves = map (λ entry. entry.supply) m.nodes ++ map (λ entry. entry.curve) m.arcs;
}

-- each arc joins two different nodes that are there, and every list is a curve list
pub record IsModel (m : Entries) : Type 0 where
  pub supplies : (i : ℕ) (d : NodeEntry) → i < length m.nodes → IsCurveList (slice_index_or m.nodes i d).supply.items
  pub curves : (j : ℕ) (d : ArcEntry) → j < length m.arcs → IsCurveList (slice_index_or m.arcs j d).curve.items
  pub tails : (j : ℕ) (d : ArcEntry) → j < length m.arcs → (slice_index_or m.arcs j d).from < length m.nodes
  pub heads : (j : ℕ) (d : ArcEntry) → j < length m.arcs → (slice_index_or m.arcs j d).to < length m.nodes
  pub no_loops : (j : ℕ) (d : ArcEntry) → j < length m.arcs → (slice_index_or m.arcs j d).from ≢ (slice_index_or m.arcs j d).to

-- ---- the names that texts print

-- a grounded node: `*`, or the node's name
abbrev pub node_name : Entries → ℕ → List ℕ
node_name m zero = codes "*"
node_name m (suc i) = (slice_index_or m.nodes i (record { name = []; supply = record { items = []; base = pos 0 } })).name

-- a grounded arc: `node NAME` with the node's name, or `arc NAME`
abbrev pub arc_name : Entries → ℕ → List ℕ
arc_name m j =
    if nat_lt j (length m.nodes) then (codes "node " ++ node_name m (j + 1))
    else (codes "arc " ++ (slice_index_or m.arcs (j - length m.nodes) (record { name = []; from = 0; to = 0; curve = record { items = []; base = pos 0 } })).name)
