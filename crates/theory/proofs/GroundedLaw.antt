-- The grounded network of a model is a network. An arc's number says which list it comes from: below the count of model
-- nodes it is a ground arc, from there on a model arc. A ground arc leaves node 0 for a node above 0. A model arc joins
-- what its entry joins, one higher. Each arc's curve stands at the same number in the list of curves.
use Rattle.std.proofs.Common.{◌≡◌, ◌≢◌, ℕ, ◌+◌, ◌-◌, ◌<◌, ◌≤◌, List, map, length, slice_index_or, sym, ap, ◌∙◌, subst, ⊎_elim, length-append, arith}
use Rattle.std.specs.List.{enumerate_from}
use Rattle.std.proofs.lemmas.Bool.{cases_lt}
use Rattle.std.proofs.lemmas.List.{length-map, get_or-map, get_or_append_left, get_or-append-add}
use Rattle.std.proofs.lemmas.List.FromFn.{length-enumerate_from, get_or-enumerate_from}
use Rattle.std.specs.Prelude.{[], pos}
use Rattle.theory.specs.CurveList.{IsCurveList}
use Rattle.theory.specs.Network.{arc_at, tail, head, curve}
use Rattle.theory.specs.Grounded.{NodeEntry, ArcEntry, Entries, joining, ground_arcs, model_arcs, grounded}
use Rattle.theory.specs.CertificateLaws.{GroundedLaw}

-- what holds of the first n numbers and of the m next ones holds of all below n + m
pub by_number : (n m : ℕ) (P : ℕ → Type 0) → ((i : ℕ) → i < n → P i) → ((k : ℕ) → k < m → P (n + k)) → (j : ℕ) → j < n + m → P j
by_number n m P front back j l =
    ⊎_elim (λ (below : j < n). front j below)
    (λ (above : n ≤ j). let same : n + (j - n) ≡ j = omega arith in subst P same (back (j - n) (omega arith)))
    (cases_lt j n)

-- ---- arcs by their number

length-ground_arcs : (nodes : List NodeEntry) → length (ground_arcs nodes) ≡ length nodes
length-ground_arcs nodes = length-map (enumerate_from 0 nodes) (λ numbered. joining 0 (numbered.0 + 1)) ∙ length-enumerate_from 0 nodes

length-model_arcs : (arcs : List ArcEntry) → length (model_arcs arcs) ≡ length arcs
length-model_arcs arcs = length-map arcs (λ entry. joining (entry.from + 1) (entry.to + 1))

pub length-grounded_arcs : (m : Entries) → length (grounded m).arcs ≡ length m.nodes + length m.arcs
length-grounded_arcs m =
    let parts = length-append (ground_arcs m.nodes) (model_arcs m.arcs) in
    omega (arith, length-ground_arcs m.nodes, length-model_arcs m.arcs)

-- ground arc i, of the list alone
pub arc_at-ground_arcs : (nodes : List NodeEntry) (i : ℕ) → i < length nodes → arc_at (ground_arcs nodes) i ≡ joining 0 (i + 1)
arc_at-ground_arcs nodes i l =
    let no_entry : NodeEntry = record { name = []; supply = record { items = []; base = pos 0 } } in
    let there : i < length (enumerate_from 0 nodes) = (let e = length-enumerate_from 0 nodes in omega arith) in
    get_or-map (λ numbered. joining 0 (numbered.0 + 1)) (enumerate_from 0 nodes) i (0, no_entry) _ there
    ∙ ap (λ numbered. joining 0 (numbered.0 + 1)) (get_or-enumerate_from 0 nodes i (0, no_entry) l)
    ∙ ap (joining 0) (omega arith)

pub arc_at-model_arcs : (arcs : List ArcEntry) (k : ℕ) (d : ArcEntry) → k < length arcs
    → arc_at (model_arcs arcs) k ≡ joining ((slice_index_or arcs k d).from + 1) ((slice_index_or arcs k d).to + 1)
arc_at-model_arcs arcs k d l = get_or-map (λ entry. joining (entry.from + 1) (entry.to + 1)) arcs k d _ l

pub arc_at-ground : (m : Entries) (i : ℕ) → i < length m.nodes → arc_at (grounded m).arcs i ≡ joining 0 (i + 1)
arc_at-ground m i l =
    let there : i < length (ground_arcs m.nodes) = (let e = length-ground_arcs m.nodes in omega arith) in
    get_or_append_left (ground_arcs m.nodes) (model_arcs m.arcs) _ i there ∙ arc_at-ground_arcs m.nodes i l

pub arc_at-model : (m : Entries) (k : ℕ) (d : ArcEntry) → k < length m.arcs
    → arc_at (grounded m).arcs (length m.nodes + k) ≡ joining ((slice_index_or m.arcs k d).from + 1) ((slice_index_or m.arcs k d).to + 1)
arc_at-model m k d l =
    let place : length m.nodes + k ≡ length (ground_arcs m.nodes) + k = ap (λ n. n + k) (sym (length-ground_arcs m.nodes)) in
    ap (arc_at (grounded m).arcs) place
    ∙ get_or-append-add (ground_arcs m.nodes) (model_arcs m.arcs) k _
    ∙ arc_at-model_arcs m.arcs k d l

pub tail-ground : (m : Entries) (i : ℕ) → i < length m.nodes → tail (grounded m) i ≡ 0
tail-ground m i l = ap (λ arc. arc.from.0) (arc_at-ground m i l)

pub head-ground : (m : Entries) (i : ℕ) → i < length m.nodes → head (grounded m) i ≡ i + 1
head-ground m i l = ap (λ arc. arc.to.0) (arc_at-ground m i l)

pub tail-model : (m : Entries) (k : ℕ) (d : ArcEntry) → k < length m.arcs
    → tail (grounded m) (length m.nodes + k) ≡ (slice_index_or m.arcs k d).from + 1
tail-model m k d l = ap (λ arc. arc.from.0) (arc_at-model m k d l)

pub head-model : (m : Entries) (k : ℕ) (d : ArcEntry) → k < length m.arcs
    → head (grounded m) (length m.nodes + k) ≡ (slice_index_or m.arcs k d).to + 1
head-model m k d l = ap (λ arc. arc.to.0) (arc_at-model m k d l)

-- ---- curves by their arc's number

pub length-grounded_curves : (m : Entries) → length (grounded m).curves ≡ length m.nodes + length m.arcs
length-grounded_curves m =
    let parts = length-append (map (λ (entry : NodeEntry). entry.supply) m.nodes) (map (λ (entry : ArcEntry). entry.curve) m.arcs) in
    let front = length-map m.nodes (λ entry. entry.supply) in
    let back = length-map m.arcs (λ entry. entry.curve) in
    omega arith

pub curve-ground : (m : Entries) (i : ℕ) (d : NodeEntry) → i < length m.nodes → curve (grounded m) i ≡ (slice_index_or m.nodes i d).supply
curve-ground m i d l =
    let there : i < length (map (λ (entry : NodeEntry). entry.supply) m.nodes) = (let e = length-map m.nodes (λ entry. entry.supply) in omega arith) in
    get_or_append_left (map (λ entry. entry.supply) m.nodes) (map (λ entry. entry.curve) m.arcs) _ i there
    ∙ get_or-map (λ entry. entry.supply) m.nodes i d _ l

pub curve-model : (m : Entries) (k : ℕ) (d : ArcEntry) → k < length m.arcs
    → curve (grounded m) (length m.nodes + k) ≡ (slice_index_or m.arcs k d).curve
curve-model m k d l =
    let place : length m.nodes + k ≡ length (map (λ (entry : NodeEntry). entry.supply) m.nodes) + k =
    ap (λ n. n + k) (sym (length-map m.nodes (λ entry. entry.supply))) in
    ap (curve (grounded m)) place
    ∙ get_or-append-add (map (λ entry. entry.supply) m.nodes) (map (λ entry. entry.curve) m.arcs) k _
    ∙ get_or-map (λ entry. entry.curve) m.arcs k d _ l

-- ---- the law

-- what holds of the ground arcs and of the model arcs holds of all arcs
pub by_arc : (m : Entries) (P : ℕ → Type 0) → ((i : ℕ) → i < length m.nodes → P i) → ((k : ℕ) → k < length m.arcs → P (length m.nodes + k))
    → (j : ℕ) → j < length (grounded m).arcs → P j
by_arc m P ground model j l =
    let count = length-grounded_arcs m in
    by_number (length m.nodes) (length m.arcs) P ground model j (omega arith)

pub grounded_is_network : GroundedLaw
grounded_is_network m model =
    let no_node : NodeEntry = record { name = []; supply = record { items = []; base = pos 0 } } in
    let no_arc : ArcEntry = record { name = []; from = 0; to = 0; curve = record { items = []; base = pos 0 } } in
    record {
      tails = by_arc m (λ j. tail (grounded m) j < length m.nodes + 1)
          (λ i l. let e = tail-ground m i l in omega arith)
          (λ k l. let e = tail-model m k no_arc l in let there = model.tails k no_arc l in omega arith);
      heads = by_arc m (λ j. head (grounded m) j < length m.nodes + 1)
          (λ i l. let e = head-ground m i l in omega arith)
          (λ k l. let e = head-model m k no_arc l in let there = model.heads k no_arc l in omega arith);
      no_loops = by_arc m (λ j. tail (grounded m) j ≢ head (grounded m) j)
          (λ i l same. let e = tail-ground m i l in let f = head-ground m i l in omega arith)
          (λ k l same. let e = tail-model m k no_arc l in let f = head-model m k no_arc l in model.no_loops k no_arc l (omega arith));
      one_curve_each = length-grounded_curves m ∙ sym (length-grounded_arcs m);
      curve_lists = by_arc m (λ j. IsCurveList (curve (grounded m) j).items)
          (λ i l. rw (curve-ground m i no_node l) (model.supplies i no_node l))
          (λ k l. rw (curve-model m k no_arc l) (model.curves k no_arc l));
    }
