-- How a search spreads. It begins with the source settled at key 0 and its steps untried. To relax a step lowers the key of a
-- node that isn't settled, or meets it, so settled nodes and the ways over them stay, and what was tried stays tried: there
-- the level at a step's end can only have come down, or the end was unmet and every tension was on the curve. To settle the
-- nearest node changes no key. Where all steps at the opened node were tried, none is left open.
use Rattle.std.proofs.Common.{◌≡◌, ◌≢◌, ℕ, zero, suc, ◌+◌, ◌<◌, ◌≤◌, ℤ, pos, ◌-ℤ◌, Bool, true, false, ◌||◌, if◌then◌else◌, IsTrue, Some, None, List, length, get_or, replicate, ◌⊎◌, inl, inr, refl, sym, ap, ◌∙◌, subst, ⊎_elim, arith}
use Rattle.std.proofs.lemmas.Int.{ints}
use Rattle.std.proofs.Math.Nat.{mul-le-mul_left}
use Rattle.std.proofs.lemmas.Bool.{cases_lt, cases_eq, false≢true}
use Rattle.std.proofs.lemmas.List.{get_or-set_same, get_or_past, length-replicate}
use Rattle.theory.specs.declared.ext.Ext.{Ext}
use Rattle.theory.specs.declared.network.Step.{Step}
use Rattle.theory.specs.Limits.{IsWithin, number_most}
use Rattle.theory.specs.Network.{«at», tail, head, list_at}
use Rattle.theory.specs.OnCurve.{IsOnCurve}
use Rattle.theory.specs.Cut.{holds}
use Rattle.theory.specs.Circuit.{step, begin_of, end_of}
use Rattle.net_incidence.specs.Graph.{Graph, bare}
use Rattle.net_incidence.specs.Incidence.{incident_steps}
use Rattle.painted_search.specs.Room.{Room, count_most}
use Rattle.painted_search.specs.Writes.{with_scratch, with_mark}
use Rattle.painted_search.specs.Reaching.{begun}
use Rattle.painted_search.specs.Path.{label_at}
use Rattle.net_incidence.proofs.Graphs.{begin-in_graph}
use Rattle.net_incidence.proofs.Degrees.{incident-stands}
use Rattle.kilter_solver.specs.Ranges.{key_most}
use Rattle.kilter_solver.specs.Along.{rise, directed, IsPairAlong}
use Rattle.kilter_solver.specs.Ready.{AreOnCurves, IsReady, Ready}
use Rattle.kilter_solver.specs.Spread.{key, level, is_label, is_near, IsTried, WayTo, Spread, IsSameState, IsNearest}
use Rattle.theory.proofs.Marks.{holds-set_same, holds-set_other}
use Rattle.kilter_solver.proofs.Marking.{marked_total-set, count-some, count-most}

-- ---- nodes that were met

pub near-done : (w : Room) (i : ℕ) → IsTrue (holds w.reached i) → IsTrue (is_near w i)
near-done w i h = rw h refl

pub near-label : (w : Room) (i : ℕ) (s : Step) → label_at w.labels i ≡ Some s → IsTrue (is_near w i)
near-label w i s h = rw h (by_case (holds w.reached i))
  where
    by_case : (b : Bool) → IsTrue (b || true)
    by_case true = refl
    by_case false = refl

-- ---- the pair of an arc, along a step over it

turned : (items : List Ext) (x a b : ℤ) → IsPairAlong items true x (b -ℤ a) → IsPairAlong items false x (a -ℤ b)
turned items x a b on = let e : b -ℤ a ≡ directed false (a -ℤ b) = omega (arith, ints) in subst (λ (t : ℤ). IsPairAlong items true x t) e on

along_for : (items : List Ext) (x : ℤ) (u : ℕ → ℤ) (from to : ℕ) (forward : Bool) → IsOnCurve 1 items x (u to -ℤ u from)
    → IsPairAlong items forward x (u (if forward then to else from) -ℤ u (if forward then from else to))
along_for items x u from to true on = on
along_for items x u from to false on = turned items x (u from) (u to) on

pub pair_along : (g : Graph) (lists : List (List Ext)) (x u : List ℤ) (s : Step) → AreOnCurves g lists x u → s.arc.0 < length g.arcs
    → IsPairAlong (list_at lists s.arc.0) s.forward («at» x s.arc.0) (rise (bare g) («at» u) s)
pair_along g lists x u s on there =
    along_for (list_at lists s.arc.0) («at» x s.arc.0) («at» u) (tail (bare g) s.arc.0) (head (bare g) s.arc.0) s.forward (on.pairs s.arc.0 there)

-- ---- the beginning

pub replicate-at : {A : Type 0} (n k : ℕ) (a : A) → get_or (replicate n a) k a ≡ a
replicate-at zero k a = refl
replicate-at (suc n) zero a = refl
replicate-at (suc n) (suc k) a = replicate-at n k a

-- the source settled at key 0
abbrev pub started : Room → ℕ → Room
started w source = with_scratch (begun w source) (w.nodes + source) (pos 0)

module _ (g : Graph) (lists : List (List Ext)) (w : Room) (source : ℕ) (nodes : w.nodes ≡ g.nodes) (there : source < w.nodes) where
  pub started-root : IsTrue (holds (started w source).reached source)
  started-root = holds-set_same (replicate w.nodes false) source (omega (arith, length-replicate w.nodes false))

  started-others : (i : ℕ) → i ≢ source → is_near (started w source) i ≡ false
  started-others i other =
      let mark = holds-set_other (replicate w.nodes false) source i other ∙ replicate-at w.nodes i false in
      let label : label_at (replicate w.nodes None) i ≡ None = replicate-at w.nodes i None in
      rw (mark, label) refl

  pub started-alone : (i : ℕ) → IsTrue (is_near (started w source) i) → i ≡ source
  started-alone i near =
      ⊎_elim
      (λ (same : i ≡ source). same)
      (λ (other : i ≡ source → ⊥). absurd (false≢true (sym (started-others i other) ∙ near)))
      (cases_eq i source)

  started-key : key (started w source) source ≡ pos 0
  started-key = get_or-set_same w.scratch (w.nodes + source) (pos 0) (pos 0) (omega (arith, w.two_words_each))

  pub spread-started : Spread g lists source source (started w source)
  spread-started =
      let v = started w source in
      let alone : (i : ℕ) → IsTrue (holds v.reached i) → i ≡ source = λ i done. started-alone i (near-done v i done) in
      record {
        rank = λ i. 0;
        bound = pos 0;
        root = started-root;
        root_key = started-key;
        opened_done = λ l. started-root;
        opened_key = λ l. started-key;
        lower = λ i done. rw (alone i done, started-key) (omega (arith, ints));
        upper = λ i near waits.
            absurd (false≢true (sym waits ∙ subst (λ (k : ℕ). IsTrue (holds v.reached k)) (sym (started-alone i near)) started-root));
        ways = λ i near other. absurd (other (started-alone i near));
        tried = λ s l done other. absurd (other (alone (begin_of (bare g) s) done));
        ranged = λ i near. (let e : level v i ≡ level v source = ap (level v) (started-alone i near) in (omega (arith, ints), omega (arith, ints)));
        near_rank = λ i near. omega arith;
        done_rank = λ i done. count-some g.nodes v.reached source (omega arith) started-root;
      }

-- ---- settling the nearest node

module _ (g : Graph) (lists : List (List Ext)) (source i : ℕ) (w : Room) (spread : Spread g lists source g.nodes w) (nodes : w.nodes ≡ g.nodes)
    (nearest : IsNearest w i) where
  mark-there : i < length w.reached
  mark-there = omega (arith, nearest.there, w.sized.one_mark_each)

  settled-same : (k : ℕ) → IsTrue (holds w.reached k) → IsTrue (holds (with_mark w i).reached k)
  settled-same k done =
      holds-set_other w.reached i k (λ same. false≢true (sym nearest.waits ∙ subst (λ (n : ℕ). IsTrue (holds w.reached n)) same done)) ∙ done

  settled-cases : (k : ℕ) → IsTrue (holds (with_mark w i).reached k) → (k ≡ i) ⊎ IsTrue (holds w.reached k)
  settled-cases k done =
      ⊎_elim
      (λ (same : k ≡ i). inl same)
      (λ (other : k ≡ i → ⊥). inr (sym (holds-set_other w.reached i k other) ∙ done))
      (cases_eq k i)

  settled-near : (k : ℕ) → is_near (with_mark w i) k ≡ is_near w k
  settled-near k =
      ⊎_elim
      (λ (same : k ≡ i).
      rw same (near-done (with_mark w i) i (holds-set_same w.reached i mark-there) ∙ sym nearest.near))
      (λ (other : k ≡ i → ⊥). ap (λ (b : Bool). b || is_label (label_at w.labels k)) (holds-set_other w.reached i k other))
      (cases_eq k i)

  pub spread-settled : Spread g lists source i (with_mark w i)
  spread-settled =
      let v = with_mark w i in
      let near_back : (k : ℕ) → IsTrue (is_near v k) → IsTrue (is_near w k) = λ k near. sym (settled-near k) ∙ near in
      let count = marked_total-set g.nodes (λ (k : ℕ). 1) w.reached i (omega (arith, nearest.there)) mark-there nearest.waits in
      record {
        rank = spread.rank;
        bound = key w i;
        root = settled-same source spread.root;
        root_key = spread.root_key;
        opened_done = λ l. holds-set_same w.reached i mark-there;
        opened_key = λ l. refl;
        lower = λ k done. ⊎_elim
            (λ (same : k ≡ i). rw same (omega (arith, ints)))
            (λ (before : IsTrue (holds w.reached k)).
            let low = spread.lower k before in let high = spread.upper i nearest.near nearest.waits in omega (arith, ints))
            (settled-cases k done);
        upper = λ k near waits. nearest.least k (near_back k near) (waiting k waits);
        ways = λ k near other. way (spread.ways k (near_back k near) other);
        tried = λ s there done other. ⊎_elim
            (λ (same : begin_of (bare g) s ≡ i). absurd (other same))
            (λ (before : IsTrue (holds w.reached (begin_of (bare g) s))).
            let old = spread.tried s there before (λ e. let below = begin-in_graph g s there in omega arith) in
            record { pairs = λ t least most. old.pairs t least (λ near. most (settled-near (end_of (bare g) s) ∙ near)) })
            (settled-cases (begin_of (bare g) s) done);
        ranged = λ k near. spread.ranged k (near_back k near);
        near_rank = λ k near. (let before = spread.near_rank k (near_back k near) in omega arith);
        done_rank = λ k done. ⊎_elim
            (λ (same : k ≡ i). let before = spread.near_rank i nearest.near in let e : spread.rank k ≡ spread.rank i = ap spread.rank same in omega arith)
            (λ (before : IsTrue (holds w.reached k)). let low = spread.done_rank k before in omega arith)
            (settled-cases k done);
      }
    where
      waiting : (k : ℕ) → holds (with_mark w i).reached k ≡ false → holds w.reached k ≡ false
      waiting k waits =
          ⊎_elim
          (λ (same : k ≡ i). rw same nearest.waits)
          (λ (other : k ≡ i → ⊥). sym (holds-set_other w.reached i k other) ∙ waits)
          (cases_eq k i)

      way : {k : ℕ} → WayTo g lists w spread.rank k → WayTo g lists (with_mark w i) spread.rank k
      way to = record {
        last = to.last;
        is = record {
          label = to.is.label;
          there = to.is.there;
          ends = to.is.ends;
          done = settled-same (begin_of (bare g) to.last) to.is.done;
          deeper = to.is.deeper;
          next = to.is.next;
          small = to.is.small;
        };
      }

-- ---- all steps at the opened node tried

pub spread-closed : (g : Graph) (lists : List (List Ext)) (source i : ℕ) (steps : List Step) (w : Room) → Spread g lists source i w
    → steps ≡ incident_steps g.arcs i → ((k : ℕ) → k < length steps → IsTried g lists w (step steps k)) → Spread g lists source g.nodes w
spread-closed g lists source i steps w spread are tried = record {
  rank = spread.rank;
  bound = spread.bound;
  root = spread.root;
  root_key = spread.root_key;
  opened_done = λ l. absurd (omega arith);
  opened_key = λ l. absurd (omega arith);
  lower = spread.lower;
  upper = spread.upper;
  ways = spread.ways;
  tried = λ s there done other. ⊎_elim
      (λ (same : begin_of (bare g) s ≡ i).
      let found = incident-stands (bare g) s there g.good in
      let lists_same : incident_steps g.arcs (begin_of (bare g) s) ≡ steps = ap (incident_steps g.arcs) same ∙ sym are in
      let is : step steps found.place ≡ s = ap (λ some. step some found.place) (sym lists_same) ∙ found.is in
      let within : found.place < length steps = (let long = ap length lists_same in omega (arith, found.within)) in
      subst (λ (t : Step). IsTried g lists w t) is (tried found.place within))
      (λ (before : begin_of (bare g) s ≡ i → ⊥). spread.tried s there done before)
      (cases_eq (begin_of (bare g) s) i);
  ranged = spread.ranged;
  near_rank = spread.near_rank;
  done_rank = spread.done_rank;
}

-- ---- ranges

pub near-below : (w : Room) (i : ℕ) → IsTrue (is_near w i) → i < w.nodes
near-below w i near =
    ⊎_elim
    (λ (below : i < w.nodes). below)
    (λ (above : w.nodes ≤ i).
    let mark : holds w.reached i ≡ false = get_or_past w.reached i false (omega (arith, w.sized.one_mark_each)) in
    let label : label_at w.labels i ≡ None = get_or_past w.labels i None (omega (arith, w.sized.one_label_each)) in
    let out : is_near w i ≡ false = rw (mark, label) refl in
    absurd (false≢true (sym out ∙ near)))
    (cases_lt i w.nodes)

pub key-within : (g : Graph) (lists : List (List Ext)) (source opened : ℕ) (w : Room) (i : ℕ) → Spread g lists source opened w
    → Ready g lists w → IsTrue (is_near w i) → IsWithin key_most (key w i)
key-within g lists source opened w i spread ready near =
    let range = spread.ranged i near in
    let low = range.0 in
    let high = range.1 in
    let root = spread.root_key in
    let deep = spread.near_rank i near in
    let few = count-most g.nodes w.reached in
    let nodes = w.sized.few_nodes in
    let same = ready.same_nodes in
    let deeper : spread.rank i ≤ count_most = omega arith in
    let size = mul-le-mul_left number_most deeper in
    let here = ready.potentials i in
    let here_low = here.0 in
    let here_high = here.1 in
    let there = ready.potentials source in
    let there_low = there.0 in
    let there_high = there.1 in
    (omega (arith, ints), omega (arith, ints))

pub ready-same : (g : Graph) (lists : List (List Ext)) (v w : Room) → IsSameState v w → Ready g lists v → Ready g lists w
ready-same g lists v w same ready =
    subst (λ (u : List ℤ). IsReady g lists w.nodes w.arcs w.flows u) (sym same.potentials)
    (subst (λ (x : List ℤ). IsReady g lists w.nodes w.arcs x v.potentials) (sym same.flows)
    (subst (λ (m : ℕ). IsReady g lists w.nodes m v.flows v.potentials) (sym same.arcs)
    (subst (λ (n : ℕ). IsReady g lists n v.arcs v.flows v.potentials) (sym same.nodes) ready)))
