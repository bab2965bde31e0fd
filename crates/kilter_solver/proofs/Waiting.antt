-- The queue of a search holds the nodes that were met and aren't settled: none at the beginning, one more where a step meets
-- a node, the same ones where a step lowers a key, and one less where the first of them is settled.
use Rattle.std.proofs.Common.{◌≡◌, ◌≢◌, inl, inr, ℕ, ◌+◌, ◌<◌, ℤ, Bool, ◌||◌, true, false, IsTrue, List, length, refl, sym, ap, ◌∙◌, ⊎_elim, arith}
use Rattle.std.proofs.lemmas.Bool.{cases_eq, false≢true}
use Rattle.theory.specs.declared.ext.Ext.{Ext}
use Rattle.theory.specs.declared.network.Step.{Step}
use Rattle.theory.specs.Cut.{holds}
use Rattle.theory.proofs.Marks.{holds-set_same, holds-set_other}
use Rattle.net_incidence.specs.Graph.{Graph}
use Rattle.painted_search.specs.Room.{Room}
use Rattle.painted_search.specs.Writes.{with_mark, with_scratch, relabelled}
use Rattle.painted_search.specs.Path.{label_at}
use Rattle.kilter_solver.specs.Spread.{is_label, is_near, relaxed, IsSameButQueue, IsNearest}
use Rattle.kilter_solver.specs.Heap.{slot, size, IsQueued, IsHeap, IsResized, IsInserted, IsDecreased, IsTaken, IsWaiting}
use Rattle.kilter_solver.proofs.Spreading.{started, started-alone, started-root}
use Rattle.kilter_solver.proofs.Requeued.{near-same}
use Rattle.kilter_solver.proofs.Relaxing.{relaxed-near, relaxed-nears}
use Rattle.kilter_solver.proofs.Heaps.{first-least}

reached-same : (u w : Room) (i : ℕ) → IsSameButQueue u w → holds w.reached i ≡ holds u.reached i
reached-same u w i same = ap (λ side. holds side i) same.reached

-- ---- the beginning

pub waiting-started : (g : Graph) (lists : List (List Ext)) (entry w : Room) (source : ℕ) → entry.nodes ≡ g.nodes → source < entry.nodes
    → IsResized (started entry source) w 0 → IsWaiting w
waiting-started g lists entry w source nodes there cleared =
    let none = cleared.many in
    let empty : (i : ℕ) → IsQueued w i → ⊥ = λ i queued. (let l = queued.within in absurd (omega arith)) in
    record {
      heap = record {
        filled = record {
          few = omega arith;
          there = λ k l. absurd (omega arith);
          placed = λ k l. absurd (omega arith);
        };
        ordered = λ q k l left right. absurd (omega arith);
      };
      queued = λ i near waits.
          let is = started-alone g lists entry source nodes there i (sym (near-same (started entry source) w i cleared.same) ∙ near) in
          let done : IsTrue (holds w.reached source) =
          reached-same (started entry source) w source cleared.same ∙ started-root g lists entry source nodes there in
          absurd (false≢true (sym waits ∙ ap (holds w.reached) is ∙ done));
      near = λ i queued. absurd (empty i queued);
      waits = λ i queued. absurd (empty i queued);
    }

-- ---- the nearest node

pub nearest-first : (w : Room) → IsWaiting w → 0 < size w → IsNearest w (slot w 0)
nearest-first w waiting some =
    let filled = waiting.heap.filled in
    let first : IsQueued w (slot w 0) = record {
      within = (let e = filled.placed 0 some in omega arith);
      is = ap (slot w) (filled.placed 0 some);
    } in
    record {
      there = filled.there 0 some;
      near = waiting.near (slot w 0) first;
      waits = waiting.waits (slot w 0) first;
      least = λ k near waits. first-least w k waiting.heap (waiting.queued k near waits);
    }

pub none-waits : (w : Room) → IsWaiting w → size w ≡ 0 → (k : ℕ) → IsTrue (is_near w k) → IsTrue (holds w.reached k)
none-waits w waiting none k near = by_case (holds w.reached k) refl
  where
    by_case : (b : Bool) → holds w.reached k ≡ b → IsTrue (holds w.reached k)
    by_case true is = is
    by_case false is = (let l = (waiting.queued k near is).within in absurd (omega arith))

-- ---- a node settled

pub heap-marked : (v : Room) (i : ℕ) → IsHeap v → IsHeap (with_mark v i)
heap-marked v i heap = record {
  filled = record { few = heap.filled.few; there = heap.filled.there; placed = heap.filled.placed };
  ordered = heap.ordered;
}

pub waiting-settled : (v w : Room) (i : ℕ) → IsWaiting v → i < v.nodes → i ≡ slot v 0 → IsTaken (with_mark v i) w → IsHeap w → IsWaiting w
waiting-settled v w i waiting there is taken heap =
    let m = with_mark v i in
    let mark_there : i < length v.reached = omega (arith, v.sized.one_mark_each) in
    let reached_other : (j : ℕ) → j ≢ i → holds w.reached j ≡ holds v.reached j =
    (λ j other. reached-same m w j taken.same ∙ holds-set_other v.reached i j other) in
    let near_other : (j : ℕ) → j ≢ i → is_near w j ≡ is_near v j =
    (λ j other. near-same m w j taken.same ∙ ap (λ (b : Bool). b || is_label (label_at v.labels j)) (holds-set_other v.reached i j other)) in
    let before : (j : ℕ) → IsQueued w j → IsQueued v j = λ j queued. (
    let q = ((taken.held j).0 queued).0 in
    record { within = q.within; is = q.is }) in
    let other : (j : ℕ) → IsQueued w j → j ≢ i = λ j queued e. ((taken.held j).0 queued).1 (e ∙ is) in
    record {
      heap = heap;
      queued = λ j near waits.
          let not : j ≢ i = (λ e.
          false≢true
          (sym waits ∙ ap (holds w.reached) e ∙ reached-same m w i taken.same ∙ holds-set_same v.reached i mark_there)) in
          let q = waiting.queued j (sym (near_other j not) ∙ near) (sym (reached_other j not) ∙ waits) in
          (taken.held j).1 (record { within = q.within; is = q.is }, λ e. not (e ∙ sym is));
      near = λ j queued. near_other j (other j queued) ∙ waiting.near j (before j queued);
      waits = λ j queued. reached_other j (other j queued) ∙ waiting.waits j (before j queued);
    }

-- ---- a node met, or a key lowered

-- the same words, in the order in which they are written
pub same-relaxed : (v w : Room) (i : ℕ) (s : Step) (z : ℤ) → IsSameButQueue (with_scratch (relabelled v i s) (v.nodes + i) z) w
    → IsSameButQueue (relaxed v i s z) w
same-relaxed v w i s z same = record {
  nodes = same.nodes;
  arcs = same.arcs;
  flows = same.flows;
  potentials = same.potentials;
  reached = same.reached;
  labels = same.labels;
  walk = same.walk;
  scratch = same.scratch;
}

pub heap-labelled : (v : Room) (i : ℕ) (s : Step) → IsHeap v → IsHeap (relabelled v i s)
heap-labelled v i s heap = record {
  filled = record { few = heap.filled.few; there = heap.filled.there; placed = heap.filled.placed };
  ordered = heap.ordered;
}

module _ (v w : Room) (i : ℕ) (s : Step) (z : ℤ) (waiting : IsWaiting v) (there : i < v.nodes) (out : holds v.reached i ≡ false)
    (same : IsSameButQueue (relaxed v i s z) w) (heap : IsHeap w) where
  near-now : (j : ℕ) → j ≡ i → IsTrue (is_near w j)
  near-now j is = ap (is_near w) is ∙ near-same (relaxed v i s z) w i same ∙ relaxed-near v i s z there

  near-others : (j : ℕ) → j ≢ i → is_near w j ≡ is_near v j
  near-others j other = near-same (relaxed v i s z) w j same ∙ relaxed-nears v i s z there j other

  near-kept : (j : ℕ) → IsTrue (is_near v j) → IsTrue (is_near w j)
  near-kept j near =
      ⊎_elim
      (λ (is : j ≡ i). near-now j is)
      (λ (other : j ≡ i → ⊥). near-others j other ∙ near)
      (cases_eq j i)

  reached-kept : (j : ℕ) → holds w.reached j ≡ holds v.reached j
  reached-kept j = reached-same (relaxed v i s z) w j same

  pub waiting-inserted : IsInserted (relabelled v i s) w i z → IsWaiting w
  waiting-inserted inserted = record {
    heap = heap;
    queued = λ j near waits.
        ⊎_elim
        (λ (is : j ≡ i). (inserted.held j).1 (inr is))
        (λ (other : j ≡ i → ⊥).
        let q = waiting.queued j (sym (near-others j other) ∙ near) (sym (reached-kept j) ∙ waits) in
        (inserted.held j).1 (inl (record { within = q.within; is = q.is })))
        (cases_eq j i);
    near = λ j queued.
        ⊎_elim
        (λ (q : IsQueued (relabelled v i s) j). near-kept j (waiting.near j (record { within = q.within; is = q.is })))
        (λ (is : j ≡ i). near-now j is)
        ((inserted.held j).0 queued);
    waits = λ j queued.
        ⊎_elim
        (λ (q : IsQueued (relabelled v i s) j). reached-kept j ∙ waiting.waits j (record { within = q.within; is = q.is }))
        (λ (is : j ≡ i). reached-kept j ∙ ap (holds v.reached) is ∙ out)
        ((inserted.held j).0 queued);
  }

  pub waiting-decreased : IsTrue (is_near v i) → IsDecreased (relabelled v i s) w i z → IsWaiting w
  waiting-decreased met decreased = record {
    heap = heap;
    queued = λ j near waits.
        let near_before : IsTrue (is_near v j) = ⊎_elim
        (λ (is : j ≡ i). ap (is_near v) is ∙ met)
        (λ (other : j ≡ i → ⊥). sym (near-others j other) ∙ near)
        (cases_eq j i) in
        let q = waiting.queued j near_before (sym (reached-kept j) ∙ waits) in
        (decreased.held j).1 (record { within = q.within; is = q.is });
    near = λ j queued.
        let q = (decreased.held j).0 queued in
        near-kept j (waiting.near j (record { within = q.within; is = q.is }));
    waits = λ j queued.
        let q = (decreased.held j).0 queued in
        reached-kept j ∙ waiting.waits j (record { within = q.within; is = q.is });
  }
