-- The heap of a search. Where one slot alone may be less than its parent, a swap of the two leaves only the parent's slot so:
-- the parent was not above the slot's children, and what comes down was not above its other child. A node that comes in has a
-- slot, since the slots hold different nodes and it is none of them. By halving the slot's number, the first slot is a
-- least one.
use Rattle.std.proofs.Common.{◌≡◌, ◌≢◌, ℕ, zero, suc, ◌+◌, ◌*◌, ◌<◌, ◌≤◌, ℤ, pos, ◌≤ℤ◌, List, sym, ap, ◌∙◌, subst, ⊎_elim, arith}
use Rattle.std.proofs.lemmas.Int.{ints}
use Rattle.std.proofs.lemmas.Bool.{cases_lt, cases_eq}
use Rattle.std.proofs.lemmas.List.{get_or-set_same, get_or-set_other}
use Rattle.theory.specs.Network.{«at»}
use Rattle.theory.proofs.Counting.{fewer-without}
use Rattle.painted_search.specs.Room.{Room}
use Rattle.painted_search.specs.Writes.{with_scratch}
use Rattle.kilter_solver.specs.Spread.{key, IsSameButQueue}
use Rattle.kilter_solver.specs.Heap.{slot, place, size, slot_key, IsFilled, IsQueued, IsHeap, IsHeapUpTo, IsPut, IsResized, IsSwapped, IsShuffled}

-- ---- nothing but the queue

pub same-further : (u v w : Room) → IsSameButQueue u v → IsSameButQueue v w → IsSameButQueue u w
same-further u v w one two = record {
  nodes = two.nodes ∙ one.nodes;
  arcs = two.arcs ∙ one.arcs;
  flows = two.flows ∙ one.flows;
  potentials = two.potentials ∙ one.potentials;
  reached = two.reached ∙ one.reached;
  labels = two.labels ∙ one.labels;
  walk = two.walk ∙ one.walk;
  scratch = two.scratch ∙ one.scratch;
}

pub same-key : (v w : Room) → IsSameButQueue v w → (i : ℕ) → key w i ≡ key v i
same-key v w same i = ap (λ (n : ℕ). «at» w.scratch (n + i)) same.nodes ∙ ap (λ (z : List ℤ). «at» z (v.nodes + i)) same.scratch

-- ---- nodes in the queue

pub queued-at : (w : Room) (k i : ℕ) → IsFilled w → k < size w → slot w k ≡ i → IsQueued w i
queued-at w k i filled l is =
    subst (λ (j : ℕ). IsQueued w j) is
    (let e = filled.placed k l in record { within = omega arith; is = ap (slot w) e })

pub shuffled-further : (u v w : Room) → IsShuffled u v → IsShuffled v w → IsShuffled u w
shuffled-further u v w one two = record {
  same = same-further u v w one.same two.same;
  many = two.many ∙ one.many;
  held = λ i. (λ queued. (one.held i).0 ((two.held i).0 queued), λ queued. (two.held i).1 ((one.held i).1 queued));
}

-- ---- up and down

module _ (v w : Room) (a b : ℕ) (filled : IsFilled v) (after : IsFilled w) (first : a < size v) (second : b < size v) (s : IsSwapped v w a b) where
  key-first : slot_key w a ≡ slot_key v b
  key-first = same-key v w s.same (slot w a) ∙ ap (key v) s.first

  key-second : slot_key w b ≡ slot_key v a
  key-second = same-key v w s.same (slot w b) ∙ ap (key v) s.second

  key-other : (k : ℕ) → k < size v → k ≢ a → k ≢ b → slot_key w k ≡ slot_key v k
  key-other k l not_a not_b = same-key v w s.same (slot w k) ∙ ap (key v) (s.slots k (omega (arith, filled.few)) not_a not_b)

  -- slot b has risen to its parent a
  pub risen : IsHeapUpTo v b → 2 * a + 1 ≤ b → b ≤ 2 * a + 2 → slot_key v b ≤ℤ slot_key v a → IsHeapUpTo w a
  risen heap left right less =
      let up = key-first in
      let down = key-second in
      let many = s.many in
      record {
        filled = after;
        bridged = record {
          over = λ q c l q_left q_right c_left c_right.
              let above = heap.ordered q a first q_left q_right (λ e. omega arith) in
              let stays = key-other q (omega arith) (λ e. omega arith) (λ e. omega arith) in
              ⊎_elim
              (λ (is : c ≡ b). let e = ap (slot_key w) is in omega (arith, ints))
              (λ (other : c ≡ b → ⊥).
              let below = heap.ordered a c (omega arith) c_left c_right other in
              let e = key-other c (omega arith) (λ e. omega arith) other in
              omega (arith, ints))
              (cases_eq c b);
        };
        ordered = λ q c l c_left c_right not_a.
            ⊎_elim
            (λ (is : c ≡ b).
            let e = ap (slot_key w) is in
            let q_is : q ≡ a = omega arith in
            let f = ap (slot_key w) q_is in
            omega (arith, ints))
            (λ (other : c ≡ b → ⊥).
            let e = key-other c (omega arith) not_a other in
            let below = heap.ordered q c (omega arith) c_left c_right other in
            ⊎_elim
            (λ (q_is : q ≡ a).
            let f = ap (slot_key w) q_is in
            let g = ap (slot_key v) q_is in
            omega (arith, ints))
            (λ (not_q : q ≡ a → ⊥).
            ⊎_elim
            (λ (q_is : q ≡ b).
            let f = ap (slot_key w) q_is in
            let over = heap.bridged.over a c (omega arith) left right (omega arith) (omega arith) in
            omega (arith, ints))
            (λ (q_other : q ≡ b → ⊥). let f = key-other q (omega arith) not_q q_other in omega (arith, ints))
            (cases_eq q b))
            (cases_eq q a))
            (cases_eq c b);
      }

-- ---- the first slot

parent : (k : ℕ) → (q : ℕ) × (2 * q + 1 ≤ suc k) × (suc k ≤ 2 * q + 2)
parent zero = (0, omega arith, omega arith)
parent (suc zero) = (0, omega arith, omega arith)
parent (suc (suc k)) = (let up = parent k in let l = up.1 in let h = up.2 in (suc up.0, omega arith, omega arith))

first-below : (w : Room) → IsHeap w → (n k : ℕ) → k ≤ n → k < size w → slot_key w 0 ≤ℤ slot_key w k
first-below w heap n zero low l = omega (arith, ints)
first-below w heap zero (suc k) low l = absurd (omega arith)
first-below w heap (suc n) (suc k) low l =
    let up = parent k in
    let left = up.1 in
    let right = up.2 in
    let over = heap.ordered up.0 (suc k) l left right in
    let before = first-below w heap n up.0 (omega arith) (omega arith) in
    omega (arith, ints)

pub first-least : (w : Room) (i : ℕ) → IsHeap w → IsQueued w i → key w (slot w 0) ≤ℤ key w i
first-least w i heap queued =
    let below = first-below w heap (place w i) (place w i) (omega arith) queued.within in
    let e = ap (key w) queued.is in
    omega (arith, ints)

-- ---- one node more

module _ (v : Room) (i : ℕ) (filled : IsFilled v) (new : IsQueued v i → ⊥) where
  slots-other : (k : ℕ) → k < size v → slot v k ≢ i
  slots-other k l is = new (queued-at v k i filled l is)

  pub room-for : i < v.nodes → size v < v.nodes
  room-for there =
      fewer-without (size v) v.nodes i (slot v)
      (λ j k before l e. (let f = sym (filled.placed j (omega arith)) ∙ ap (place v) e ∙ filled.placed k l in omega arith))
      filled.there there slots-other

module _ (v u p r : Room) (i : ℕ) (z : ℤ) (heap : IsHeap v) (there : i < v.nodes) (new : IsQueued v i → ⊥)
    (keyed : u ≡ with_scratch v (v.nodes + i) z) (put : IsPut u p (size v) i) (grown : IsResized p r (size v + 1)) where
  abbrev t : Room
  t = with_scratch v (v.nodes + i) z

  not-new : (k : ℕ) → k < size v → slot v k ≢ i
  not-new = slots-other v i heap.filled new

  room-more : size v < v.nodes
  room-more = room-for v i heap.filled new there

  put-nodes : u.nodes ≡ v.nodes
  put-nodes = ap (λ (w : Room). w.nodes) keyed

  new-slot : (k : ℕ) → k < size v → slot r k ≡ slot v k
  new-slot k l =
      let few = heap.filled.few in
      grown.slots k (omega (arith, put-nodes, put.same.nodes)) ∙ put.slots k (omega (arith, put-nodes)) (λ e. omega arith)
      ∙ ap (λ (w : Room). slot w k) keyed

  new-place : (j : ℕ) → j < v.nodes → j ≢ i → place r j ≡ place v j
  new-place j l other =
      grown.places j (omega (arith, put-nodes, put.same.nodes)) ∙ put.places j (omega (arith, put-nodes)) other
      ∙ ap (λ (w : Room). place w j) keyed

  last-slot : slot r (size v) ≡ i
  last-slot = grown.slots (size v) (omega (arith, put-nodes, put.same.nodes, room-more)) ∙ put.here

  last-place : place r i ≡ size v
  last-place = grown.places i (omega (arith, put-nodes, put.same.nodes)) ∙ put.its_place

  pub inserted-same : IsSameButQueue t r
  inserted-same =
      subst (λ (w : Room). IsSameButQueue w r) keyed (same-further u p r put.same grown.same)

  inserted-nodes : r.nodes ≡ v.nodes
  inserted-nodes = inserted-same.nodes

  inserted-key : (k : ℕ) → k < size v → slot_key r k ≡ slot_key v k
  inserted-key k l =
      same-key t r inserted-same (slot r k) ∙ ap (key t) (new-slot k l)
      ∙ get_or-set_other v.scratch (v.nodes + i) (v.nodes + slot v k) z (pos 0) (λ e. not-new k l (omega arith))

  pub inserted-filled : IsFilled r
  inserted-filled =
      let nodes = inserted-nodes in
      let many = grown.many in
      record {
        few = omega (arith, room-more);
        there = λ k l. ⊎_elim
            (λ (old : k < size v). let e = new-slot k old in let below = heap.filled.there k old in omega arith)
            (λ (last : size v ≤ k).
            let is : k ≡ size v = omega arith in
            let e = ap (slot r) is ∙ last-slot in
            omega arith)
            (cases_lt k (size v));
        placed = λ k l. ⊎_elim
            (λ (old : k < size v).
            ap (place r) (new-slot k old) ∙ new-place (slot v k) (heap.filled.there k old) (not-new k old) ∙ heap.filled.placed k old)
            (λ (last : size v ≤ k).
            let is : k ≡ size v = omega arith in
            ap (place r) (ap (slot r) is ∙ last-slot) ∙ last-place ∙ sym is)
            (cases_lt k (size v));
      }

  pub inserted-heap : IsHeapUpTo r (size v)
  inserted-heap =
      let many = grown.many in
      record {
        filled = inserted-filled;
        bridged = record { over = λ q c l q_left q_right c_left c_right. absurd (omega arith) };
        ordered = λ q c l left right other.
            let e = inserted-key c (omega arith) in
            let f = inserted-key q (omega arith) in
            let order = heap.ordered q c (omega arith) left right in
            omega (arith, ints);
      }

-- ---- a lesser key

module _ (v : Room) (i : ℕ) (z : ℤ) (heap : IsHeap v) (there : i < v.nodes) (queued : IsQueued v i) (less : z ≤ℤ key v i) where
  abbrev d : Room
  d = with_scratch v (v.nodes + i) z

  lesser-key : slot_key d (place v i) ≡ z
  lesser-key =
      ap (key d) queued.is ∙ get_or-set_same v.scratch (v.nodes + i) z (pos 0) (omega (arith, v.two_words_each))

  other-key : (k : ℕ) → k < size v → k ≢ place v i → slot_key d k ≡ slot_key v k
  other-key k l other =
      get_or-set_other v.scratch (v.nodes + i) (v.nodes + slot v k) z (pos 0)
      (λ e. other (let same : slot v k ≡ i = omega arith in sym (heap.filled.placed k l) ∙ ap (place v) same))

  pub decreased-heap : IsHeapUpTo d (place v i)
  decreased-heap =
      let k = place v i in
      let here = lesser-key in
      let old : slot_key v k ≡ key v i = ap (key v) queued.is in
      let within = queued.within in
      record {
        filled = record { few = heap.filled.few; there = heap.filled.there; placed = heap.filled.placed };
        bridged = record {
          over = λ q c l q_left q_right c_left c_right.
              let above = heap.ordered q k within q_left q_right in
              let below = heap.ordered k c l c_left c_right in
              let e = other-key q (omega arith) (λ e. omega arith) in
              let f = other-key c l (λ e. omega arith) in
              omega (arith, ints);
        };
        ordered = λ q c l left right other.
            let order = heap.ordered q c l left right in
            let f = other-key c l other in
            ⊎_elim
            (λ (is : q ≡ k). let e = ap (slot_key d) is in let g = ap (slot_key v) is in omega (arith, ints))
            (λ (not_k : q ≡ k → ⊥). let e = other-key q (omega arith) not_k in omega (arith, ints))
            (cases_eq q k);
      }
