-- One more node of the tree. The step that reaches it begins at a node of the tree and ends at none of them, so the walk with
-- this step is a tree again: what was said of its nodes and steps stays, since they stay, and of the new ones it holds by the
-- step. There is room for it, since the nodes of the tree are different and the new one is not among them.
use Rattle.std.proofs.Common.{◌≡◌, ◌≢◌, ℕ, ℤ, zero, suc, ◌+◌, ◌<◌, ◌≤◌, ◌==◌, Bool, true, false, IsTrue, Some, None, List, [], ◌∷◌, ◌++◌, length, set, refl, sym, ap, ◌∙◌, subst, ⊎_elim, eq-eqb, length-append, arith}
use Rattle.std.proofs.lemmas.Bool.{cases_lt, cases_eq, ne_eqb, false≢true}
use Rattle.std.proofs.lemmas.List.{get_or-set_same, get_or-set_other}
use Rattle.theory.specs.declared.colour.Colour.{Colour}
use Rattle.theory.specs.declared.network.Step.{Step}
use Rattle.theory.specs.Network.{Network}
use Rattle.theory.specs.Cut.{holds}
use Rattle.theory.specs.Circuit.{step, begin_of, end_of}
use Rattle.theory.proofs.Counting.{fewer-without}
use Rattle.theory.proofs.Walks.{step-kept, step-last}
use Rattle.theory.proofs.Marks.{holds-set_at, holds-set_other, holds-set_kept}
use Rattle.net_incidence.specs.Graph.{Graph, bare}
use Rattle.net_incidence.proofs.Graphs.{end-in_graph}
use Rattle.painted_search.specs.Room.{Room}
use Rattle.painted_search.specs.Reaching.{with_reached}
use Rattle.painted_search.specs.Path.{IsFreeStep, label_at}
use Rattle.painted_search.specs.Tree.{node_at, IsTree, IsSearching, GoesOn}

-- ---- the nodes of a walk that goes on

pub node_at-kept : (net : Network) (from : ℕ) (walk longer : List Step) → ((k : ℕ) → k < length walk → step longer k ≡ step walk k)
    → (k : ℕ) → k ≤ length walk → node_at net from longer k ≡ node_at net from walk k
node_at-kept net from walk longer same zero l = refl
node_at-kept net from walk longer same (suc k) l = ap (end_of net) (same k (omega arith))

-- ---- room for one more

pub tree-room : (net : Network) (colours : ℕ → Colour) (from i : ℕ) (w : Room) → IsTree net colours from w → i < net.nodes
    → holds w.reached i ≡ false → length w.walk + 1 < net.nodes
tree-room net colours from i w tree there outside =
    fewer-without (length w.walk + 1) net.nodes i (node_at net from w.walk)
    (λ j k before l. tree.differ j k before (omega arith))
    (λ k l. tree.nodes_there k (omega arith))
    there
    (λ k l same. false≢true (sym (subst (λ n. holds w.reached n ≡ false) (sym same) outside) ∙ tree.marked k (omega arith)))

-- ---- the tree

pub tree-reached : (net : Network) (colours : ℕ → Colour) (from : ℕ) (w : Room) (s : Step) (room : length w.walk < w.nodes)
    → IsTree net colours from w → w.nodes ≡ net.nodes → s.arc.0 < length net.arcs → IsFreeStep colours s
    → end_of net s < net.nodes → IsTrue (holds w.reached (begin_of net s)) → holds w.reached (end_of net s) ≡ false
    → IsTree net colours from (with_reached w (end_of net s) s room)
tree-reached net colours from w s room tree nodes there free end_there begins outside =
    let e = end_of net s in
    let L = length w.walk in
    let walk = w.walk ++ s ∷ [] in
    let count : length walk ≡ L + 1 = length-append w.walk (s ∷ []) in
    let kept : (k : ℕ) → k < L → step walk k ≡ step w.walk k = step-kept w.walk s in
    let last : (k : ℕ) → k ≡ L → step walk k ≡ s = step-last w.walk s in
    let node_kept : (k : ℕ) → k ≤ L → node_at net from walk k ≡ node_at net from w.walk k = node_at-kept net from w.walk walk kept in
    let node_last : (k : ℕ) → k ≡ L + 1 → node_at net from walk k ≡ e =
    (λ k same. let is : k ≡ suc L = omega arith in rw is (ap (end_of net) (last L refl))) in
    let mark_there : e < length w.reached = omega (arith, w.sized.one_mark_each) in
    let label_there : e < length w.labels = omega (arith, w.sized.one_label_each) in
    let no_node : (k : ℕ) → k ≤ L → node_at net from w.walk k ≢ e =
    (λ k l same. false≢true (sym (subst (λ n. holds w.reached n ≡ false) (sym same) outside) ∙ tree.marked k l)) in
    record {
      there = λ k l. ⊎_elim
          (λ (before : k < L). rw (kept k before) (tree.there k before))
          (λ (after : L ≤ k). rw (last k (omega arith)) there)
          (cases_lt k L);
      free = λ k l. ⊎_elim
          (λ (before : k < L). subst (IsFreeStep colours) (sym (kept k before)) (tree.free k before))
          (λ (after : L ≤ k). subst (IsFreeStep colours) (sym (last k (omega arith))) free)
          (cases_lt k L);
      nodes_there = λ k l. ⊎_elim
          (λ (before : k < L + 1). rw (node_kept k (omega arith)) (tree.nodes_there k (omega arith)))
          (λ (after : L + 1 ≤ k). rw (node_last k (omega arith)) end_there)
          (cases_lt k (L + 1));
      earlier = λ k l. ⊎_elim
          (λ (before : k < L).
          let found = tree.earlier k before in
          (found.0, found.1, ap (begin_of net) (kept k before) ∙ found.2 ∙ sym (node_kept found.0 (let at = found.1 in omega arith))))
          (λ (after : L ≤ k).
          let found = tree.spanned (begin_of net s) begins in
          (found.0, (let within = found.1 in omega arith), ap (begin_of net) (last k (omega arith)) ∙ sym found.2 ∙ sym (node_kept found.0 found.1)))
          (cases_lt k L);
      differ = λ i k before l. ⊎_elim
          (λ (early : k < L + 1).
          λ same. tree.differ i k before (omega arith) (sym (node_kept i (omega arith)) ∙ same ∙ node_kept k (omega arith)))
          (λ (late : L + 1 ≤ k).
          λ same. no_node i (omega arith) (sym (node_kept i (omega arith)) ∙ same ∙ node_last k (omega arith)))
          (cases_lt k (L + 1));
      marked = λ k l. ⊎_elim
          (λ (before : k < L + 1).
          rw (node_kept k (omega arith)) (holds-set_kept w.reached e (node_at net from w.walk k) mark_there (tree.marked k (omega arith))))
          (λ (after : L + 1 ≤ k). holds-set_at w.reached e (node_at net from walk k) mark_there (node_last k (omega arith)))
          (cases_lt k (L + 1));
      spanned = λ i held. ⊎_elim
          (λ (new : i ≡ e). (L + 1, (omega arith), node_last (L + 1) refl ∙ sym new))
          (λ (old : i ≡ e → ⊥).
          let found = tree.spanned i (sym (holds-set_other w.reached e i old) ∙ held) in
          (found.0, (let within = found.1 in omega arith), node_kept found.0 found.1 ∙ found.2))
          (cases_eq i e);
      labelled = λ k l. ⊎_elim
          (λ (before : k < L).
          let other : end_of net (step walk k) ≢ e = (λ same. no_node (suc k) (omega arith) (sym (ap (end_of net) (kept k before)) ∙ same)) in
          get_or-set_other w.labels e (end_of net (step walk k)) (Some s) None other
          ∙ ap (λ (t : Step). label_at w.labels (end_of net t)) (kept k before)
          ∙ tree.labelled k before
          ∙ ap (λ (t : Step). Some t) (sym (kept k before)))
          (λ (after : L ≤ k).
          let is = last k (omega arith) in
          rw is (get_or-set_same w.labels e (Some s) None label_there))
          (cases_lt k L);
      root_unlabelled = get_or-set_other w.labels e from (Some s) None (no_node 0 (omega arith)) ∙ tree.root_unlabelled;
      outside_unlabelled = λ i off. ⊎_elim
          (λ (new : i ≡ e). absurd (false≢true (sym off ∙ holds-set_at w.reached e i mark_there new)))
          (λ (old : i ≡ e → ⊥).
          get_or-set_other w.labels e i (Some s) None old ∙ tree.outside_unlabelled i (sym (holds-set_other w.reached e i old) ∙ off))
          (cases_eq i e);
    }

pub goes_on-reached : (w : Room) (i : ℕ) (s : Step) (room : length w.walk < w.nodes) → i < w.nodes → GoesOn w (with_reached w i s room)
goes_on-reached w i s room there = record {
  flows = refl;
  potentials = refl;
  longer = (let count = length-append w.walk (s ∷ []) in omega arith);
  walk = step-kept w.walk s;
  reached = λ k held. holds-set_kept w.reached i k (omega (arith, w.sized.one_mark_each)) held;
}

pub goes_on-further : (u v w : Room) → GoesOn u v → GoesOn v w → GoesOn u w
goes_on-further u v w first second = record {
  flows = second.flows ∙ first.flows;
  potentials = second.potentials ∙ first.potentials;
  longer = omega (arith, first.longer, second.longer);
  walk = λ k l. second.walk k (omega (arith, first.longer)) ∙ first.walk k l;
  reached = λ i held. second.reached i (first.reached i held);
}

-- ---- the same of a search under way

pub searching-room : (g : Graph) (Ready : List ℤ → List ℤ → Type 0) (paint : List ℤ → List ℤ → ℕ → Colour) (from : ℕ) (w : Room) (s : Step)
    → IsSearching g Ready paint from w → s.arc.0 < length g.arcs → holds w.reached (end_of (bare g) s) ≡ false → length w.walk < w.nodes
searching-room g Ready paint from w s searching there outside =
    let room = tree-room (bare g) (paint w.flows w.potentials) from (end_of (bare g) s) w searching.tree (end-in_graph g s there) outside in
    omega (arith, searching.fits.same_nodes)

pub searching-reached : (g : Graph) (Ready : List ℤ → List ℤ → Type 0) (paint : List ℤ → List ℤ → ℕ → Colour) (from : ℕ) (w : Room) (s : Step)
    (room : length w.walk < w.nodes) → IsSearching g Ready paint from w → s.arc.0 < length g.arcs
    → IsFreeStep (paint w.flows w.potentials) s → IsTrue (holds w.reached (begin_of (bare g) s)) → holds w.reached (end_of (bare g) s) ≡ false
    → IsSearching g Ready paint from (with_reached w (end_of (bare g) s) s room)
searching-reached g Ready paint from w s room searching there free begins outside = record {
  fits = searching.fits;
  ready = searching.ready;
  tree = tree-reached (bare g) (paint w.flows w.potentials) from w s room searching.tree searching.fits.same_nodes there free
      (end-in_graph g s there) begins outside;
}

met-is : (side : List Bool) (i k : ℕ) → i < length side → holds side k ≡ false → i == k ≡ holds (set side i true) k
met-is side i k l off =
    ⊎_elim
    (λ (same : i ≡ k). eq-eqb i k same ∙ sym (holds-set_at side i k l (sym same)))
    (λ (other : i ≡ k → ⊥). ne_eqb i k other ∙ sym off ∙ sym (holds-set_other side i k (λ e. other (sym e))))
    (cases_eq i k)

-- what holds once node i, where the free step s ends, is reached by it
pub record IsPassed (g : Graph) (Ready : List ℤ → List ℤ → Type 0) (paint : List ℤ → List ℤ → ℕ → Colour) (from : ℕ) (s : Step) (i : ℕ) (w new : Room) : Type 0 where
  pub searching : IsSearching g Ready paint from new
  pub goes_on : GoesOn w new
  pub met : (k : ℕ) → holds w.reached k ≡ false → i == k ≡ holds new.reached k
  pub reached : IsTrue (holds new.reached (end_of (bare g) s))

pub unreached : (side : List Bool) (i j : ℕ) (answer : Bool) → i ≡ j → answer ≡ holds side i → answer ≡ false → holds side j ≡ false
unreached side i j answer same is off = ap (holds side) (sym same) ∙ sym is ∙ off

pub passed : (g : Graph) (Ready : List ℤ → List ℤ → Type 0) (paint : List ℤ → List ℤ → ℕ → Colour) (from : ℕ) (s : Step) (i : ℕ) (w new : Room) (answer : Bool)
    → IsSearching g Ready paint from w → s.arc.0 < length g.arcs → IsFreeStep (paint w.flows w.potentials) s
    → IsTrue (holds w.reached (begin_of (bare g) s)) → i ≡ end_of (bare g) s → answer ≡ holds w.reached i → answer ≡ false
    → ((room : length w.walk < w.nodes) → new ≡ with_reached w i s room) → IsPassed g Ready paint from s i w new
passed g Ready paint from s i w new answer searching there free begins is answered off made =
    let P : ℕ → Type 0 = λ i. holds w.reached i ≡ false → ((room : length w.walk < w.nodes) → new ≡ with_reached w i s room)
    → IsPassed g Ready paint from s i w new in
    subst P (sym is)
    (λ outside made.
    let room = searching-room g Ready paint from w s searching there outside in
    let end_there : end_of (bare g) s < w.nodes = (let e = end-in_graph g s there in omega (arith, searching.fits.same_nodes)) in
    let mark_there : end_of (bare g) s < length w.reached = omega (arith, w.sized.one_mark_each) in
    let Q : Room → Type 0 = IsPassed g Ready paint from s (end_of (bare g) s) w in
    subst Q (sym (made room)) (record {
      searching = searching-reached g Ready paint from w s room searching there free begins outside;
      goes_on = goes_on-reached w (end_of (bare g) s) s room end_there;
      met = λ k off. met-is w.reached (end_of (bare g) s) k mark_there off;
      reached = holds-set_at w.reached (end_of (bare g) s) (end_of (bare g) s) mark_there refl;
    }))
    (sym answered ∙ off) made
