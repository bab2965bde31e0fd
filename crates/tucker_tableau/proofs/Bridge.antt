-- The laws make the rows a spanning tree and the entries Tucker's. The flow round a circuit is conserved, so the flow law gives
-- its number on each row from its numbers on the columns. A circuit of row arcs has none on any column, so it would have none
-- on a row either: there is no such circuit. The circuit that a column's arc closes has 1 on that column and none on the
-- others, so on each row it has the entry, which is therefore 1, -1 or 0. The number of a node's part is a potential that
-- rises along no row's arc, so all nodes are of one part, and paths lead everywhere.
use Rattle.std.proofs.Common.{◌≡◌, ◌≢◌, ℕ, suc, ◌<◌, ◌≤◌, ◌==◌, ℤ, pos, ◌-ℤ◌, ◌*ℤ◌, cond, Bool, true, false, List, [], ◌∷◌, length, sym, ap, ◌∙◌, subst, ⊎_elim, eq-eqb, arith}
use Rattle.std.proofs.lemmas.Int.{ints}
use Rattle.std.proofs.lemmas.Bool.{cases_eq, cases_lt, ne_eqb}
use Rattle.theory.specs.declared.network.Step.{Step}
use Rattle.theory.specs.Sums.{counted}
use Rattle.theory.specs.Network.{Network, IsNetwork, tail, head}
use Rattle.theory.specs.Circuit.{step, end_of, IsCircuit, WalkIsThere}
use Rattle.theory.specs.Tucker.{HasArc, GoesOver, Leads, IsSpanningTree, IsCircuitOf, IsTuckerEntry, passing}
use Rattle.theory.proofs.Rings.{rings}
use Rattle.theory.proofs.SumsBelow.{sum_below-same, sum_below-zero, sum_below-pick}
use Rattle.tucker_tableau.specs.Tableau.{number, Spans, IsLawful, IsTuckerTableau}
use Rattle.tucker_tableau.specs.Lead.{part}
use Rattle.tucker_tableau.proofs.Paths.{part-level, path, Each-at, leads-way}
use Rattle.tucker_tableau.proofs.Circuits.{uses, circuit_flow, uses-none, uses-passing, IsUnit, passing-unit, passing-step, passing-first, circuit_of, after}

-- ---- the tree

there_over : (net : Network) (rows : List ℕ) (walk : List Step) → ((i : ℕ) → i < length rows → number rows i < length net.arcs) → GoesOver rows walk → WalkIsThere net walk
there_over net rows walk there over k l = let h = over k l in rw (← h.is) (there h.place h.there)

no_circuit : (net : Network) (rows columns : List ℕ) (a : ℕ → ℕ → ℤ) → IsLawful net rows columns a → (walk : List Step) → IsCircuit net walk → GoesOver rows walk → ⊥
no_circuit net rows columns a lawful walk circuit over =
    let split = lawful.split in
    let there = there_over net rows walk split.rows_there over in
    let h = over 0 circuit.not_empty in
    let law = lawful.flow_law (uses walk) (circuit_flow net walk circuit there) h.place h.there in
    let off : (j : ℕ) → j < length columns → uses walk (number columns j) ≡ pos 0 = λ j m.
    uses-none walk (number columns j) (λ k l e. let o = over k l in split.apart o.place j o.there m (o.is ∙ e)) in
    let none = sum_below-zero (length columns) (λ j. a h.place j *ℤ uses walk (number columns j)) (λ j m. ap (λ w. a h.place j *ℤ w) (off j m) ∙ nothing (a h.place j)) in
    passing-step walk 0 (number rows h.place) circuit.not_empty (sym h.is) (sym (uses-passing walk (number rows h.place) circuit.arcs_differ) ∙ law ∙ none)
  where
    nothing : (x : ℤ) → x *ℤ pos 0 ≡ pos 0
    nothing x = omega (arith, rings)

-- all nodes are of one part
pub one_part : (net : Network) (rows : List ℕ) → Spans net rows → (k : ℕ) → k < net.nodes → part net rows 0 ≡ part net rows k
one_part net rows spans k l =
    let u : ℕ → ℤ = λ v. pos (part net rows v) in
    let same : u k ≡ u 0 = spans u (λ i m. level (part net rows (head net (number rows i))) (part net rows (tail net (number rows i))) (part-level net rows i m)) k l in
    cc
  where
    level : (h t : ℕ) → h ≡ t → pos h -ℤ pos t ≡ pos 0
    level h t e = omega (arith, ints)

pub is_tree : (net : Network) (rows columns : List ℕ) (a : ℕ → ℕ → ℤ) → IsLawful net rows columns a → IsSpanningTree net rows
is_tree net rows columns a lawful =
    let split = lawful.split in
    record {
      count = split.count;
      there = split.rows_there;
      differ = split.rows_differ;
      no_circuit = no_circuit net rows columns a lawful;
      joins_all = λ k l. (
          let p = path net rows 0 k split.rows_differ (one_part net rows lawful.spans k l) in
          (p.0, Each-at (λ s. HasArc rows s.arc.0) p.0 p.1.over, leads-way net 0 k p.0 p.1.way));
    }

-- ---- the entries

differ_either : (arcs : List ℕ) → ((i k : ℕ) → i < k → k < length arcs → number arcs i ≢ number arcs k)
    → (i k : ℕ) → i < length arcs → k < length arcs → i ≢ k → number arcs i ≢ number arcs k
differ_either arcs differ i k l m ne e =
    ⊎_elim (λ (below : i < k). differ i k below m e) (λ (above : k ≤ i). differ k i (omega arith) l (sym e)) (cases_lt i k)

entry_each : (net : Network) (rows columns : List ℕ) (a : ℕ → ℕ → ℤ) → IsLawful net rows columns a → (i j : ℕ) → i < length rows → j < length columns
    → (walk : List Step) → IsCircuitOf net rows (number columns j) walk → a i j ≡ passing walk (number rows i)
entry_each net rows columns a lawful i j row column walk of =
    let split = lawful.split in
    let c = number columns j in
    let circuit = of.circuit in
    let first : (step walk 0).arc.0 ≡ c = ap (λ s. s.arc.0) of.begins in
    let there : WalkIsThere net walk = λ k l. ⊎_elim
    (λ (later : 0 < k). let h = of.goes_on k later l in rw (← h.is) (split.rows_there h.place h.there))
    (λ (begin : k ≤ 0). let e : k ≡ 0 = omega arith in rw (e, first) (split.columns_there j column)) (cases_lt 0 k) in
    let x = uses walk in
    let law = lawful.flow_law x (circuit_flow net walk circuit there) i row in
    let here : x c ≡ pos 1 = uses-passing walk c circuit.arcs_differ ∙ passing-first walk c circuit.not_empty of.begins in
    let others : (m : ℕ) → m < length columns → m ≢ j → x (number columns m) ≡ pos 0 = λ m l ne.
    uses-none walk (number columns m) (λ k h e. ⊎_elim
    (λ (later : 0 < k). let o = of.goes_on k later h in split.apart o.place m o.there l (o.is ∙ e))
    (λ (begin : k ≤ 0). let z : k ≡ 0 = omega arith in differ_either columns split.columns_differ m j l column ne (sym e ∙ ap (λ n. (step walk n).arc.0) z ∙ first)) (cases_lt 0 k)) in
    let terms = sum_below-same (length columns) (λ m. a i m *ℤ x (number columns m)) (λ m. counted (j == m) (a i m)) (λ m l. ⊎_elim
    (λ (e : j ≡ m). rw (eq-eqb j m e) (ap (λ w. a i m *ℤ w) (ap (λ n. x (number columns n)) (sym e) ∙ here) ∙ once (a i m)))
    (λ (ne : j ≡ m → ⊥). rw (ne_eqb j m ne) (ap (λ w. a i m *ℤ w) (others m l (λ e. ne (sym e))) ∙ nothing (a i m)))
    (cases_eq j m)) in
    sym (sum_below-pick (length columns) j (a i) column) ∙ sym terms ∙ sym law ∙ uses-passing walk (number rows i) circuit.arcs_differ
  where
    once : (x : ℤ) → x *ℤ pos 1 ≡ x
    once x = omega (arith, rings)

    nothing : (x : ℤ) → x *ℤ pos 0 ≡ pos 0
    nothing x = omega (arith, rings)

entry_one : (net : Network) (rows columns : List ℕ) (a : ℕ → ℕ → ℤ) → IsNetwork net → IsLawful net rows columns a → (j : ℕ) → j < length columns
    → (walk : List Step) × IsCircuitOf net rows (number columns j) walk
entry_one net rows columns a good lawful j column =
    let split = lawful.split in
    let c = number columns j in
    let there = split.columns_there j column in
    let same = sym (one_part net rows lawful.spans (head net c) (good.heads c there)) ∙ one_part net rows lawful.spans (tail net c) (good.tails c there) in
    let p = path net rows (head net c) (tail net c) split.rows_differ same in
    (after c p.0, circuit_of net rows c p.0 p.1 (λ h. split.apart h.place j h.there column h.is))

pub tucker_entry : (net : Network) (rows columns : List ℕ) (a : ℕ → ℕ → ℤ) → IsNetwork net → IsLawful net rows columns a → (i j : ℕ) → i < length rows → j < length columns
    → IsTuckerEntry net rows (number rows i) (number columns j) (a i j)
tucker_entry net rows columns a good lawful i j row column =
    record { one = entry_one net rows columns a good lawful j column; each = entry_each net rows columns a lawful i j row column }

pub entry_unit : (net : Network) (rows columns : List ℕ) (a : ℕ → ℕ → ℤ) → IsNetwork net → IsLawful net rows columns a → (i j : ℕ) → i < length rows → j < length columns
    → IsUnit (a i j)
entry_unit net rows columns a good lawful i j row column =
    let e = entry_one net rows columns a good lawful j column in
    subst IsUnit (sym (entry_each net rows columns a lawful i j row column e.0 e.1)) (passing-unit e.0 (number rows i))

-- ---- the whole

pub tucker_tableau : (net : Network) (rows columns : List ℕ) (a : ℕ → ℕ → ℤ) → IsNetwork net → IsLawful net rows columns a → IsTuckerTableau net rows columns a
tucker_tableau net rows columns a good lawful =
    record {
      split = lawful.split;
      tree = is_tree net rows columns a lawful;
      entries = tucker_entry net rows columns a good lawful;
      flow_law = lawful.flow_law;
      tension_law = lawful.tension_law;
    }

along : (net : Network) (rows : List ℕ) (u : ℕ → ℤ) (i k : ℕ) (walk : List Step) → Leads net i walk k
    → ((j : ℕ) → j < length walk → u (head net (step walk j).arc.0) ≡ u (tail net (step walk j).arc.0)) → u k ≡ u i
along net rows u i k [] leads level = ap u (sym leads)
along net rows u i k (s ∷ walk) leads level =
    along net rows u (end_of net s) k walk leads.1 (λ j l. level (suc j) (omega arith))
    ∙ by_direction (head net s.arc.0) (tail net s.arc.0) s.forward (level 0 (omega arith)) ∙ ap u leads.0
  where
    by_direction : (h t : ℕ) (forward : Bool) → u h ≡ u t → u (cond forward h t) ≡ u (cond forward t h)
    by_direction h t true e = e
    by_direction h t false e = sym e

-- a potential that rises along no arc of a spanning tree is constant
tree_spans : (net : Network) (rows : List ℕ) → IsSpanningTree net rows → Spans net rows
tree_spans net rows tree u level k l =
    let walk = tree.joins_all k l in
    along net rows u 0 k walk.0 walk.2 (λ j m. let h = walk.1 j m in rw (← h.is) (level_both (u (head net (number rows h.place))) (u (tail net (number rows h.place))) (level h.place h.there)))
  where
    level_both : (h t : ℤ) → h -ℤ t ≡ pos 0 → h ≡ t
    level_both h t e = omega (arith, ints)

pub lawful_tableau : (net : Network) (rows columns : List ℕ) (a : ℕ → ℕ → ℤ) → IsTuckerTableau net rows columns a → IsLawful net rows columns a
lawful_tableau net rows columns a tableau =
    record { split = tableau.split; spans = tree_spans net rows tableau.tree; flow_law = tableau.flow_law; tension_law = tableau.tension_law }
