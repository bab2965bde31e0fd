-- The steps at a node are all steps that begin there, and over all nodes there are two for each arc: over one arc at most one
-- step begins at the arc's tail and one at its head, and none elsewhere.
use Rattle.std.proofs.Common.{◌≡◌, ◌≢◌, ℕ, zero, suc, ◌+◌, ◌*◌, ◌<◌, ◌≤◌, ◌==◌, if◌then◌else◌, Bool, true, false, List, length, refl, ap, ◌∙◌, ⊎_elim, eq-eqb, length-append, arith}
use Rattle.std.proofs.lemmas.Bool.{cases_lt, cases_eq, ne_eqb}
use Rattle.std.proofs.lemmas.List.{get_or_append_left, get_or-append-add}
use Rattle.theory.specs.declared.network.Arc.{Arc}
use Rattle.theory.specs.declared.network.Step.{Step}
use Rattle.theory.specs.Network.{Network, arc_at, tail, head}
use Rattle.theory.specs.Circuit.{step, begin_of}
use Rattle.net_incidence.specs.Graph.{AreArcs}
use Rattle.net_incidence.specs.Incidence.{over, step_at, joined_below, incident_steps}
use Rattle.net_incidence.proofs.Incident.{step_at-tail, step_at-head, step_at-none}
use Rattle.theory.proofs.Counting.{total_below-zero, total_below-same, total_below-order, total_below-add}
use Rattle.theory.specs.Sums.{total_below}

-- ---- how many there are

abbrev hit : Bool → ℕ
hit b = if b then 1 else 0

step_at-few : (ends : Arc) (j i : ℕ) → length (step_at ends j i) ≤ hit (ends.from.0 == i) + hit (ends.to.0 == i)
step_at-few ends j i =
    ⊎_elim
    (λ (at_tail : ends.from.0 ≡ i). rw (step_at-tail ends j i at_tail, eq-eqb ends.from.0 i at_tail) (omega arith))
    (λ (off_tail : ends.from.0 ≡ i → ⊥).
    ⊎_elim
    (λ (at_head : ends.to.0 ≡ i).
    rw (step_at-head ends j i off_tail at_head, ne_eqb ends.from.0 i off_tail, eq-eqb ends.to.0 i at_head) (omega arith))
    (λ (off_head : ends.to.0 ≡ i → ⊥). rw (step_at-none ends j i off_tail off_head) (omega arith))
    (cases_eq ends.to.0 i))
    (cases_eq ends.from.0 i)

hit-off : (x i : ℕ) → x ≢ i → hit (x == i) ≡ 0
hit-off x i ne = rw (ne_eqb x i ne) refl

hit-on : (x i : ℕ) → x ≡ i → hit (x == i) ≡ 1
hit-on x i e = rw (eq-eqb x i e) refl

none_hit : (n x : ℕ) → n ≤ x → total_below n (λ i. hit (x == i)) ≡ 0
none_hit zero x l = refl
none_hit (suc n) x l =
    let before = none_hit n x (omega arith) in
    let last : hit (x == n) ≡ 0 = hit-off x n (λ e. omega arith) in
    omega arith

one_hit : (n x : ℕ) → total_below n (λ i. hit (x == i)) ≤ 1
one_hit zero x = omega arith
one_hit (suc n) x =
    ⊎_elim
    (λ (here : x ≡ n).
    let before = none_hit n x (omega arith) in
    let last : hit (x == n) ≡ 1 = hit-on x n here in
    omega arith)
    (λ (elsewhere : x ≡ n → ⊥).
    let before = one_hit n x in
    let last : hit (x == n) ≡ 0 = hit-off x n elsewhere in
    omega arith)
    (cases_eq x n)

over_arc : (n j : ℕ) (ends : Arc) → total_below n (λ i. length (step_at ends j i)) ≤ 2
over_arc n j ends =
    let tails = λ (i : ℕ). hit (ends.from.0 == i) in
    let heads = λ (i : ℕ). hit (ends.to.0 == i) in
    let few = total_below-order n (λ i. length (step_at ends j i)) (λ i. tails i + heads i) (λ i l. step_at-few ends j i) in
    let split = total_below-add n tails heads in
    let tail_once = one_hit n ends.from.0 in
    let head_once = one_hit n ends.to.0 in
    omega arith

over_arcs : (n m : ℕ) (arcs : List Arc) → total_below n (λ i. length (joined_below m (λ j. step_at (arc_at arcs j) j i))) ≤ 2 * m
over_arcs n zero arcs = let e = total_below-zero n in omega arith
over_arcs n (suc m) arcs =
    let front = λ (i : ℕ). length (joined_below m (λ j. step_at (arc_at arcs j) j i)) in
    let last = λ (i : ℕ). length (step_at (arc_at arcs m) m i) in
    let parts = total_below-same n (λ i. length (joined_below (suc m) (λ j. step_at (arc_at arcs j) j i))) (λ i. front i + last i)
    (λ i l. length-append (joined_below m (λ j. step_at (arc_at arcs j) j i)) (step_at (arc_at arcs m) m i)) in
    let split = total_below-add n front last in
    let before = over_arcs n m arcs in
    let here = over_arc n m (arc_at arcs m) in
    omega arith

pub degrees : (n : ℕ) (arcs : List Arc) → total_below n (λ i. length (incident_steps arcs i)) ≤ 2 * length arcs
degrees n arcs = over_arcs n (length arcs) arcs

-- ---- which they are

-- the place of s in a list of steps
pub record StandsAt (steps : List Step) (s : Step) : Type 0 where
  pub place : ℕ
  pub within : place < length steps
  pub is : step steps place ≡ s

joined_below-stands : (n : ℕ) (f : ℕ → List Step) (j : ℕ) (s : Step) → j < n → StandsAt (f j) s → StandsAt (joined_below n f) s
joined_below-stands zero f j s l found = absurd (omega arith)
joined_below-stands (suc n) f j s l found =
    let front = joined_below n f in
    let parts = length-append front (f n) in
    ⊎_elim
    (λ (below : j < n).
    let before = joined_below-stands n f j s below found in
    record {
      place = before.place;
      within = omega (arith, before.within);
      is = get_or_append_left front (f n) _ before.place before.within ∙ before.is;
    })
    (λ (above : n ≤ j).
    let last : j ≡ n = omega arith in
    let here : StandsAt (f n) s = rw (ap f last) at found in
    record {
      place = length front + here.place;
      within = omega (arith, here.within);
      is = get_or-append-add front (f n) here.place _ ∙ here.is;
    })
    (cases_lt j n)

step_at-stands : (net : Network) (j : ℕ) (forward : Bool) → j < length net.arcs → AreArcs net.nodes net.arcs
    → StandsAt (step_at (arc_at net.arcs j) j (begin_of net (over j forward))) (over j forward)
step_at-stands net j true there good =
    rw (step_at-tail (arc_at net.arcs j) j (tail net j) refl) (record { place = 0; within = omega arith; is = refl })
step_at-stands net j false there good =
    rw (step_at-head (arc_at net.arcs j) j (head net j) (good.no_loops j there) refl) (record { place = 0; within = omega arith; is = refl })

pub incident-stands : (net : Network) (s : Step) → s.arc.0 < length net.arcs → AreArcs net.nodes net.arcs
    → StandsAt (incident_steps net.arcs (begin_of net s)) s
incident-stands net s there good =
    joined_below-stands (length net.arcs) (λ j. step_at (arc_at net.arcs j) j (begin_of net s)) s.arc.0 s there
    (step_at-stands net s.arc.0 s.forward there good)
