-- One arc more in a round. Where its bounds hold, nothing is written, and the arc was seen now. Else the node where a step over
-- it ends is lowered to the step's bound, labelled by the step and stamped now. Potentials fall, so what labels say of other nodes
-- still holds, and if the node is where a label begins, that label's bound isn't tight any longer. A bound that begins at the
-- node is owed no more, since the stamp is now; a bound that ends there holds all the more. The arc was seen in this round or
-- the one before, and its bound did not hold, so the node where the step begins was lowered since then: that is why it is
-- stamped at most a round earlier.
use Rattle.std.proofs.Common.{◌≡◌, ◌≢◌, ℕ, suc, ◌+◌, ◌-◌, ◌*◌, ◌%◌, ◌<◌, ◌≤◌, ◌==◌, ℤ, pos, neg_ℤ, ◌≤ℤ◌, ◌<ℤ◌, Bool, true, false, if◌then◌else◌, Option, Some, None, List, length, refl, sym, ap, ◌∙◌, subst, ⊎_elim, arith}
use Rattle.std.proofs.lemmas.Bool.{cases_lt, cases_eq}
use Rattle.std.proofs.lemmas.Int.{ints}
use Rattle.std.proofs.lemmas.Option.{same_Some}
use Rattle.std.proofs.Math.Nat.{mul-le-mul_right}
use Rattle.std.specs.Option.{option_or}
use Rattle.theory.specs.declared.network.NodeId.{NodeId}
use Rattle.theory.specs.declared.network.Step.{Step}
use Rattle.theory.specs.Ends.{IsFinite}
use Rattle.theory.specs.Limits.{number_most}
use Rattle.theory.specs.Network.{Network, «at»}
use Rattle.theory.specs.Circuit.{begin_of, end_of, span_end}
use Rattle.net_incidence.specs.Incidence.{over}
use Rattle.painted_search.specs.Room.{Room}
use Rattle.painted_search.specs.Path.{label_at}
use Rattle.feasible_tension.specs.Back.{IsLabelled}
use Rattle.feasible_tension.specs.Bounds.{most_at, IsBound, IsHeld, lowered, IsLowered, IsExamined}
use Rattle.feasible_tension.specs.Relaxing.{place, IsLabelOf, IsRelaxing}
use Rattle.feasible_tension.proofs.Steps.{IsTurned, one_arc}
use Rattle.feasible_tension.proofs.Bounded.{IsBounded, end-there, ends-apart, span_end-within}
use Rattle.feasible_tension.proofs.Writes.{at-set_same, at-set_other, label-set_same, label-set_other, put, put-same, put-other}

-- ---- places

if_place : (b : Bool) (m j : ℕ) → j < m → (if b then (if b then j else (m - 1 - j)) else (m - 1 - (if b then j else (m - 1 - j)))) ≡ j
if_place true m j l = refl
if_place false m j l = omega arith

-- the arc at the place of an arc is that arc, and the other way round
pub place-place : (rounds m j : ℕ) → j < m → place rounds m (place rounds m j) ≡ j
place-place rounds m j l = if_place (rounds % 2 == 0) m j l

if_there : (b : Bool) (m j : ℕ) → j < m → (if b then j else (m - 1 - j)) < m
if_there true m j l = l
if_there false m j l = omega arith

pub place-there : (rounds m j : ℕ) → j < m → place rounds m j < m
place-there rounds m j l = if_there (rounds % 2 == 0) m j l

-- another arc than the one at place k stands before it, if it stands among the first k + 1
place-before : (rounds m j i k : ℕ) → place rounds m j ≡ k → j < m → i < m → i ≢ j → place rounds m i < k + 1 → place rounds m i < k
place-before rounds m j i k turn j_there i_there other within =
    ⊎_elim
    (λ (below : place rounds m i < k). below)
    (λ (above : k ≤ place rounds m i).
    let same : place rounds m i ≡ place rounds m j = omega arith in
    absurd (other (sym (place-place rounds m i i_there) ∙ ap (place rounds m) same ∙ place-place rounds m j j_there)))
    (cases_lt (place rounds m i) k)

-- ---- one node is lowered

record Lowering (net : Network) (r k : ℕ) (c : Option NodeId) (v : Room) (s : Step) : Type 0 where
  good : IsBounded net
  before : IsRelaxing net r k c v
  nodes : v.nodes ≡ net.nodes
  there : s.arc.0 < length net.arcs
  few : k < length net.arcs
  turn : place r (length net.arcs) s.arc.0 ≡ k
  finite : IsFinite (span_end net s)
  above : most_at net v.potentials s <ℤ «at» v.potentials (end_of net s)

abbrev now : Network → ℕ → ℕ → ℕ
now net r k = r * length net.arcs + (k + 1)

abbrev stamp_of : (net : Network) (r k : ℕ) (c : Option NodeId) (v : Room) (s : Step) → Lowering net r k c v s → ℕ → ℕ
stamp_of net r k c v s l = put l.before.stamp (end_of net s) (now net r k)

abbrev seen_of : (net : Network) (r k : ℕ) (c : Option NodeId) (v : Room) (s : Step) → Lowering net r k c v s → ℕ → ℕ
seen_of net r k c v s l = put l.before.seen s.arc.0 (now net r k)

u_same : (net : Network) (r k : ℕ) (c : Option NodeId) (v : Room) (s : Step) → Lowering net r k c v s
    → «at» (lowered net v s).potentials (end_of net s) ≡ most_at net v.potentials s
u_same net r k c v s l =
    let there = end-there net s l.good l.there in
    at-set_same v.potentials (end_of net s) (most_at net v.potentials s) (omega (arith, l.nodes, v.sized.one_potential_each))

u_other : (net : Network) (v : Room) (s : Step) (i : ℕ) → i ≢ end_of net s → «at» (lowered net v s).potentials i ≡ «at» v.potentials i
u_other net v s i other = at-set_other v.potentials (end_of net s) i (most_at net v.potentials s) other

u_falls : (net : Network) (r k : ℕ) (c : Option NodeId) (v : Room) (s : Step) (i : ℕ) → Lowering net r k c v s
    → «at» (lowered net v s).potentials i ≤ℤ «at» v.potentials i
u_falls net r k c v s i l =
    ⊎_elim
    (λ (hit : i ≡ end_of net s).
    let same = u_same net r k c v s l in
    let above = l.above in
    rw hit (omega (arith, ints)))
    (λ (other : i ≡ end_of net s → ⊥). let same = u_other net v s i other in omega (arith, ints))
    (cases_eq i (end_of net s))

label_same : (net : Network) (r k : ℕ) (c : Option NodeId) (v : Room) (s : Step) → Lowering net r k c v s
    → label_at (lowered net v s).labels (end_of net s) ≡ Some s
label_same net r k c v s l =
    let there = end-there net s l.good l.there in
    label-set_same v.labels (end_of net s) s (omega (arith, l.nodes, v.sized.one_label_each))

label_other : (net : Network) (v : Room) (s : Step) (i : ℕ) → i ≢ end_of net s → label_at (lowered net v s).labels i ≡ label_at v.labels i
label_other net v s i other = label-set_other v.labels (end_of net s) i s other

-- the node where the step begins was lowered since the arc was seen
begin_later : (net : Network) (r k : ℕ) (c : Option NodeId) (v : Room) (s : Step) → (l : Lowering net r k c v s)
    → l.before.seen s.arc.0 ≤ l.before.stamp (begin_of net s)
begin_later net r k c v s l =
    ⊎_elim
    (λ (earlier : l.before.stamp (begin_of net s) < l.before.seen s.arc.0).
    let holds = l.before.bounds s l.there earlier l.finite in
    let above = l.above in
    absurd (omega (arith, ints)))
    (λ (later : l.before.seen s.arc.0 ≤ l.before.stamp (begin_of net s)). later)
    (cases_lt (l.before.stamp (begin_of net s)) (l.before.seen s.arc.0))

fewer_rounds : (b r m : ℕ) → suc b * m < suc r * m → b < r
fewer_rounds b r m less =
    ⊎_elim
    (λ (below : b < r). below)
    (λ (above : r ≤ b). absurd (let more = mul-le-mul_right {m = suc r} {n = suc b} m (omega arith) in omega arith))
    (cases_lt b r)

-- a round ago the node where the step begins had not been lowered for the last time
label_late : (net : Network) (r k : ℕ) (c : Option NodeId) (v : Room) (s : Step) → (l : Lowering net r k c v s)
    → (b : ℕ) → suc b * length net.arcs < now net r k → b * length net.arcs < l.before.stamp (begin_of net s)
label_late net r k c v s l b less =
    let m = length net.arcs in
    let few = l.few in
    let fewer : b < r = fewer_rounds b r m (omega arith) in
    let more = mul-le-mul_right {m = suc b} {n = r} m (omega arith) in
    let since = begin_later net r k c v s l in
    let seen = l.before.seen_late s.arc.0 l.there in
    omega arith

new_label : (net : Network) (r k : ℕ) (c : Option NodeId) (v : Room) (s : Step) → (l : Lowering net r k c v s)
    → IsLabelOf net (lowered net v s).potentials (stamp_of net r k c v s l) (end_of net s) s
new_label net r k c v s l =
    let apart = ends-apart net s l.good l.there in
    let u_begin = u_other net v s (begin_of net s) apart in
    let u_end = u_same net r k c v s l in
    let stamp_begin = put-other l.before.stamp (end_of net s) (now net r k) (begin_of net s) apart in
    let stamp_end = put-same l.before.stamp (end_of net s) (now net r k) (end_of net s) refl in
    let past = l.before.past (begin_of net s) in
    record {
      there = l.there;
      ends = refl;
      finite = l.finite;
      least = omega (arith, ints);
      tight = λ e. omega arith;
      late = λ b less. let is_late = label_late net r k c v s l b (omega arith) in omega arith;
    }

old_label : (net : Network) (r k : ℕ) (c : Option NodeId) (v : Room) (s t : Step) (i : ℕ) → (l : Lowering net r k c v s) → i ≢ end_of net s
    → IsLabelOf net v.potentials l.before.stamp i t → IsLabelOf net (lowered net v s).potentials (stamp_of net r k c v s l) i t
old_label net r k c v s t i l other label =
    let p = begin_of net t in
    let u_i = u_other net v s i other in
    let u_p = u_falls net r k c v s p l in
    let stamp_i = put-other l.before.stamp (end_of net s) (now net r k) i other in
    let least = label.least in
    let past = l.before.past p in
    let stamp_p : l.before.stamp p ≤ stamp_of net r k c v s l p =
    ⊎_elim
    (λ (hit : p ≡ end_of net s). let e = put-same l.before.stamp (end_of net s) (now net r k) p hit in omega arith)
    (λ (miss : p ≡ end_of net s → ⊥). let e = put-other l.before.stamp (end_of net s) (now net r k) p miss in omega arith)
    (cases_eq p (end_of net s)) in
    record {
      there = label.there;
      ends = label.ends;
      finite = label.finite;
      least = omega (arith, ints);
      tight = λ e.
          ⊎_elim
          (λ (hit : p ≡ end_of net s).
          let above = l.above in
          let low : «at» (lowered net v s).potentials p <ℤ «at» v.potentials p =
          (let same = u_same net r k c v s l in rw hit (omega (arith, ints))) in
          absurd (omega (arith, ints)))
          (λ (miss : p ≡ end_of net s → ⊥).
          let u_kept = u_other net v s p miss in
          let stamp_kept = put-other l.before.stamp (end_of net s) (now net r k) p miss in
          let old = label.tight (omega (arith, ints)) in
          omega arith)
          (cases_eq p (end_of net s));
      late = λ b less. let old = label.late b (omega arith) in omega arith;
    }

lowered_labels : (net : Network) (r k : ℕ) (c : Option NodeId) (v : Room) (s : Step) → (l : Lowering net r k c v s) → (i : ℕ) (t : Step)
    → label_at (lowered net v s).labels i ≡ Some t → IsLabelOf net (lowered net v s).potentials (stamp_of net r k c v s l) i t
lowered_labels net r k c v s l i t is =
    ⊎_elim
    (λ (hit : i ≡ end_of net s).
    let same : s ≡ t = same_Some _ _ (sym (label_same net r k c v s l) ∙ ap (label_at (lowered net v s).labels) (sym hit) ∙ is) in
    let P : Step → Type 0 = λ t. IsLabelOf net (lowered net v s).potentials (stamp_of net r k c v s l) (end_of net s) t in
    let Q : ℕ → Type 0 = λ i. IsLabelOf net (lowered net v s).potentials (stamp_of net r k c v s l) i t in
    subst Q (sym hit) (subst P same (new_label net r k c v s l)))
    (λ (other : i ≡ end_of net s → ⊥).
    old_label net r k c v s t i l other (l.before.labels i t (sym (label_other net v s i other) ∙ is)))
    (cases_eq i (end_of net s))

lowered_stamped : (net : Network) (r k : ℕ) (c : Option NodeId) (v : Room) (s : Step) → (l : Lowering net r k c v s) → (i : ℕ)
    → 0 < stamp_of net r k c v s l i → IsLabelled (lowered net v s).labels i
lowered_stamped net r k c v s l i some =
    ⊎_elim
    (λ (hit : i ≡ end_of net s). record { pace = s; is = ap (label_at (lowered net v s).labels) hit ∙ label_same net r k c v s l })
    (λ (other : i ≡ end_of net s → ⊥).
    let kept = put-other l.before.stamp (end_of net s) (now net r k) i other in
    let old = l.before.stamped i (omega arith) in
    record { pace = old.pace; is = label_other net v s i other ∙ old.is })
    (cases_eq i (end_of net s))

lowered_unlabelled : (net : Network) (r k : ℕ) (c : Option NodeId) (v : Room) (s : Step) → (l : Lowering net r k c v s) → (i : ℕ)
    → label_at (lowered net v s).labels i ≡ None → «at» (lowered net v s).potentials i ≡ pos 0
lowered_unlabelled net r k c v s l i none =
    ⊎_elim
    (λ (hit : i ≡ end_of net s).
    let label : Some s ≡ None = sym (label_same net r k c v s l) ∙ ap (label_at (lowered net v s).labels) (sym hit) ∙ none in
    cc)
    (λ (other : i ≡ end_of net s → ⊥).
    u_other net v s i other ∙ l.before.unlabelled i (sym (label_other net v s i other) ∙ none))
    (cases_eq i (end_of net s))

-- nothing is stamped or seen after now
put_past : (f : ℕ → ℕ) (i clock j : ℕ) → ((k : ℕ) → f k ≤ clock) → put f i (clock + 1) j ≤ clock + 1
put_past f i clock j past =
    ⊎_elim
    (λ (hit : j ≡ i). let e = put-same f i (clock + 1) j hit in omega arith)
    (λ (miss : j ≡ i → ⊥). let e = put-other f i (clock + 1) j miss in let old = past j in omega arith)
    (cases_eq j i)

put_least : (f : ℕ → ℕ) (i x least j : ℕ) → least < x → (j ≢ i → least < f j) → least < put f i x j
put_least f i x least j here others =
    ⊎_elim
    (λ (hit : j ≡ i). let e = put-same f i x j hit in omega arith)
    (λ (miss : j ≡ i → ⊥). let e = put-other f i x j miss in let old = others miss in omega arith)
    (cases_eq j i)

lowered_bounds : (net : Network) (r k : ℕ) (c : Option NodeId) (v : Room) (s : Step) → (l : Lowering net r k c v s) → (t : Step)
    → t.arc.0 < length net.arcs → stamp_of net r k c v s l (begin_of net t) < seen_of net r k c v s l t.arc.0
    → IsBound net (lowered net v s).potentials t
lowered_bounds net r k c v s l t there owed =
    ⊎_elim
    (λ (hit : begin_of net t ≡ end_of net s).
    let stamp = put-same l.before.stamp (end_of net s) (now net r k) (begin_of net t) hit in
    let seen = put_past l.before.seen s.arc.0 (r * length net.arcs + k) t.arc.0 l.before.seen_past in
    let e : r * length net.arcs + k + 1 ≡ now net r k = omega arith in
    let seen_now : seen_of net r k c v s l t.arc.0 ≤ now net r k = rw e at seen in
    absurd (omega arith))
    (λ (miss : begin_of net t ≡ end_of net s → ⊥).
    let stamp = put-other l.before.stamp (end_of net s) (now net r k) (begin_of net t) miss in
    let u_begin = u_other net v s (begin_of net t) miss in
    ⊎_elim
    (λ (same : t.arc.0 ≡ s.arc.0).
    ⊎_elim
    (λ (is : t ≡ s).
    subst (IsBound net (lowered net v s).potentials) (sym is) (λ finite. let label = (new_label net r k c v s l).least in let u_end = u_same net r k c v s l in
    let u_p = u_other net v s (begin_of net s) (ends-apart net s l.good l.there) in omega (arith, ints)))
    (λ (turned : IsTurned net t s). absurd (miss turned.begins))
    (one_arc net t s same))
    (λ (other : t.arc.0 ≡ s.arc.0 → ⊥).
    let seen = put-other l.before.seen s.arc.0 (now net r k) t.arc.0 other in
    let falls = u_falls net r k c v s (end_of net t) l in
    let old = l.before.bounds t there (omega arith) in
    λ (finite : IsFinite (span_end net t)). let bound = old finite in omega (arith, ints))
    (cases_eq t.arc.0 s.arc.0))
    (cases_eq (begin_of net t) (end_of net s))

lowered_low : (net : Network) (r k : ℕ) (c : Option NodeId) (v : Room) (s : Step) → (l : Lowering net r k c v s) → (i : ℕ)
    → neg_ℤ (pos (now net r k * number_most)) ≤ℤ «at» (lowered net v s).potentials i
lowered_low net r k c v s l i =
    let clock = r * length net.arcs + k in
    let e : now net r k * number_most ≡ clock * number_most + number_most = omega arith in
    let len = (span_end-within net s l.good l.there).0 in
    ⊎_elim
    (λ (hit : i ≡ end_of net s).
    let same = u_same net r k c v s l in
    let low = l.before.low (begin_of net s) in
    rw hit (omega (arith, ints)))
    (λ (other : i ≡ end_of net s → ⊥).
    let same = u_other net v s i other in
    let low = l.before.low i in
    omega (arith, ints))
    (cases_eq i (end_of net s))

lowering : (net : Network) (r k : ℕ) (c : Option NodeId) (v : Room) (s : Step) (node : NodeId) → (l : Lowering net r k c v s)
    → node.0 ≡ end_of net s → IsRelaxing net r (k + 1) (Some node) (lowered net v s)
lowering net r k c v s node l node_is =
    let m = length net.arcs in
    let e : r * m + k + 1 ≡ now net r k = omega arith in
    record {
      stamp = stamp_of net r k c v s l;
      seen = seen_of net r k c v s l;
      labels = lowered_labels net r k c v s l;
      stamped = lowered_stamped net r k c v s l;
      unlabelled = lowered_unlabelled net r k c v s l;
      past = λ i. rw e at (put_past l.before.stamp (end_of net s) (r * m + k) i l.before.past);
      seen_past = λ j. rw e at (put_past l.before.seen s.arc.0 (r * m + k) j l.before.seen_past);
      seen_late = λ j there.
          ⊎_elim
          (λ (hit : j ≡ s.arc.0). let at_now = put-same l.before.seen s.arc.0 (now net r k) j hit in omega arith)
          (λ (miss : j ≡ s.arc.0 → ⊥).
          let kept = put-other l.before.seen s.arc.0 (now net r k) j miss in let old = l.before.seen_late j there in omega arith)
          (cases_eq j s.arc.0);
      seen_now = λ j there passed.
          put_least l.before.seen s.arc.0 (now net r k) (r * m) j (omega arith)
          (λ miss. l.before.seen_now j there (place-before r m s.arc.0 j k l.turn l.there there miss passed));
      bounds = lowered_bounds net r k c v s l;
      high = λ i. let falls = u_falls net r k c v s i l in let old = l.before.high i in omega (arith, ints);
      low = lowered_low net r k c v s l;
      held = λ none. absurd cc;
      late = let at_now = put-same l.before.stamp (end_of net s) (now net r k) node.0 node_is in omega arith;
      there = let there = end-there net s l.good l.there in omega arith;
    }

-- ---- the bounds of an arc hold

held_bound : (net : Network) (u : List ℤ) (j : ℕ) (forward : Bool) → IsHeld net u j → IsBound net u (over j forward)
held_bound net u j true held = held.forward
held_bound net u j false held = held.backward

pub step-held : (net : Network) (u : List ℤ) (s : Step) → IsHeld net u s.arc.0 → IsBound net u s
step-held net u s held = held_bound net u s.arc.0 s.forward held

holding : (net : Network) (r k j : ℕ) (c : Option NodeId) (v : Room) → IsRelaxing net r k c v → j < length net.arcs
    → place r (length net.arcs) j ≡ k → IsHeld net v.potentials j → IsRelaxing net r (k + 1) c v
holding net r k j c v before there turn holds =
    let m = length net.arcs in
    let e : r * m + k + 1 ≡ now net r k = omega arith in
    let seen = put before.seen j (now net r k) in
    record {
      stamp = before.stamp;
      seen = seen;
      labels = before.labels;
      stamped = before.stamped;
      unlabelled = before.unlabelled;
      past = λ i. let old = before.past i in omega arith;
      seen_past = λ i. rw e at (put_past before.seen j (r * m + k) i before.seen_past);
      seen_late = λ i i_there.
          ⊎_elim
          (λ (hit : i ≡ j). let at_now = put-same before.seen j (now net r k) i hit in omega arith)
          (λ (miss : i ≡ j → ⊥).
          let kept = put-other before.seen j (now net r k) i miss in let old = before.seen_late i i_there in omega arith)
          (cases_eq i j);
      seen_now = λ i i_there passed.
          put_least before.seen j (now net r k) (r * m) i (omega arith)
          (λ miss. before.seen_now i i_there (place-before r m j i k turn there i_there miss passed));
      bounds = λ t t_there owed.
          ⊎_elim
          (λ (hit : t.arc.0 ≡ j). step-held net v.potentials t (subst (IsHeld net v.potentials) (sym hit) holds))
          (λ (miss : t.arc.0 ≡ j → ⊥).
          let kept = put-other before.seen j (now net r k) t.arc.0 miss in before.bounds t t_there (omega arith))
          (cases_eq t.arc.0 j);
      high = before.high;
      low = λ i.
          let old = before.low i in
          let clock : now net r k * number_most ≡ (r * m + k) * number_most + number_most = omega arith in
          omega (arith, ints);
      held = λ none i i_there passed.
          ⊎_elim
          (λ (hit : i ≡ j). subst (IsHeld net v.potentials) (sym hit) holds)
          (λ (miss : i ≡ j → ⊥). before.held none i i_there (place-before r m j i k turn there i_there miss passed))
          (cases_eq i j);
      late = before.late;
      there = before.there;
    }

-- ---- one arc more

lowering-examined : (net : Network) (r k j : ℕ) (c : Option NodeId) (node : NodeId) (v w : Room) → IsBounded net → IsRelaxing net r k c v
    → v.nodes ≡ net.nodes → j < length net.arcs → k < length net.arcs → place r (length net.arcs) j ≡ k → IsLowered net j v node.0 w
    → IsRelaxing net r (k + 1) (Some node) w
lowering-examined net r k j c node v w good before nodes there few turn done =
    let s = done.pace in
    let l : Lowering net r k c v s =
    record {
      good = good;
      before = before;
      nodes = nodes;
      there = subst (λ i. i < length net.arcs) (sym done.over_arc) there;
      few = few;
      turn = ap (place r (length net.arcs)) done.over_arc ∙ turn;
      finite = done.finite;
      above = done.above;
    } in
    subst (IsRelaxing net r (k + 1) (Some node)) (sym done.made) (lowering net r k c v s node l done.node_is)

pub relaxing-more : (net : Network) (r k j : ℕ) (c result : Option NodeId) (v w : Room) → IsBounded net → IsRelaxing net r k c v
    → v.nodes ≡ net.nodes → j < length net.arcs → k < length net.arcs → place r (length net.arcs) j ≡ k → IsExamined net j v result w
    → IsRelaxing net r (k + 1) (option_or result c) w
relaxing-more net r k j c None v w good before nodes there few turn done =
    subst (IsRelaxing net r (k + 1) c) (sym done.1) (holding net r k j c v before there turn done.0)
relaxing-more net r k j c (Some node) v w good before nodes there few turn done =
    lowering-examined net r k j c node v w good before nodes there few turn done
