-- The flow round a walk: at each arc the count of its steps forward less the count of its steps backward. Round a circuit it
-- is conserved, since each step brings to a node what the next one takes from it; and it passes each arc at most once, so the
-- flow on an arc says how the circuit passes it. A path over the rows from the head of an arc back to its tail, after the arc
-- itself, is the circuit that the arc closes.
use Rattle.std.proofs.Common.{◌≡◌, ◌≢◌, ℕ, zero, suc, ◌+◌, ◌<◌, ◌==◌, ℤ, pos, negsuc, ◌+ℤ◌, ◌-ℤ◌, cond, Bool, true, false, List, [], ◌∷◌, length, refl, sym, ap, ◌∙◌, ⊎_elim, eq-eqb, arith}
use Rattle.std.proofs.lemmas.Int.{ints}
use Rattle.std.proofs.lemmas.Bool.{cases_eq, ne_eqb}
use Rattle.theory.specs.declared.network.Step.{Step}
use Rattle.theory.specs.Sums.{sum_below, sum_over, Each, counted}
use Rattle.theory.specs.Network.{Network, tail, head}
use Rattle.theory.specs.Conserved.{IsConserved, outflow, inflow}
use Rattle.theory.specs.Circuit.{step, begin_of, end_of, IsCircuit, WalkIsThere}
use Rattle.theory.specs.Tucker.{HasArc, IsCircuitOf, passing}
use Rattle.theory.proofs.Sums.{Each-map}
use Rattle.theory.proofs.SumsBelow.{sum_below-same, sum_below-zero, sum_below-add, sum_below-pick, counted-add}
use Rattle.theory.proofs.Unbounded.{mark_of}
use Rattle.theory.proofs.Refusals.{around}
use Rattle.tucker_tableau.proofs.Paths.{AllDiffer, IsWay, IsPath, Each-at}

-- ---- the flow round a walk

abbrev pub sign : Bool → ℤ
sign forward = cond forward (pos 1) (negsuc 0)

abbrev pub uses : List Step → ℕ → ℤ
uses [] k = pos 0
uses (s ∷ walk) k = counted (s.arc.0 == k) (sign s.forward) +ℤ uses walk k

-- what one arc's flow adds at the arc's end
at_one : (m : ℕ) (end : ℕ → ℕ) (i a : ℕ) (d : ℤ) (y : ℕ → ℤ) → a < m
    → sum_below m (λ j. counted (end j == i) (counted (a == j) d +ℤ y j)) ≡ counted (end a == i) d +ℤ sum_below m (λ j. counted (end j == i) (y j))
at_one m end i a d y there =
    sum_below-same m (λ j. counted (end j == i) (counted (a == j) d +ℤ y j)) (λ j. counted (a == j) (counted (end j == i) d) +ℤ counted (end j == i) (y j))
    (λ j l. counted-add (end j == i) (counted (a == j) d) (y j) ∙ ap (λ w. w +ℤ counted (end j == i) (y j)) (counted-swap (end j == i) (a == j) d))
    ∙ sum_below-add m (λ j. counted (a == j) (counted (end j == i) d)) (λ j. counted (end j == i) (y j))
    ∙ ap (λ w. w +ℤ sum_below m (λ j. counted (end j == i) (y j))) (sum_below-pick m a (λ j. counted (end j == i) d) there)
  where
    counted-swap : (b c : Bool) (d : ℤ) → counted b (counted c d) ≡ counted c (counted b d)
    counted-swap true c d = refl
    counted-swap false true d = refl
    counted-swap false false d = refl

one_step : (forward : Bool) (i from to : ℕ)
    → counted (from == i) (sign forward) -ℤ counted (to == i) (sign forward) +ℤ (mark_of i (cond forward to from) -ℤ mark_of i (cond forward from to)) ≡ pos 0
one_step true i from to = marks (from == i) (to == i)
  where
    marks : (b c : Bool) → counted b (pos 1) -ℤ counted c (pos 1) +ℤ (counted c (pos 1) -ℤ counted b (pos 1)) ≡ pos 0
    marks true true = refl
    marks true false = refl
    marks false true = refl
    marks false false = refl
one_step false i from to = marks (from == i) (to == i)
  where
    marks : (b c : Bool) → counted b (negsuc 0) -ℤ counted c (negsuc 0) +ℤ (counted b (pos 1) -ℤ counted c (pos 1)) ≡ pos 0
    marks true true = refl
    marks true false = refl
    marks false true = refl
    marks false false = refl

balance : (net : Network) (walk : List Step) (i : ℕ) → WalkIsThere net walk
    → outflow net (uses walk) i -ℤ inflow net (uses walk) i +ℤ sum_over (λ s. mark_of i (end_of net s) -ℤ mark_of i (begin_of net s)) walk ≡ pos 0
balance net [] i there =
    let out = sum_below-zero (length net.arcs) (λ j. counted (tail net j == i) (pos 0)) (λ j l. counted-nothing (tail net j == i)) in
    let into = sum_below-zero (length net.arcs) (λ j. counted (head net j == i) (pos 0)) (λ j l. counted-nothing (head net j == i)) in
    omega (arith, ints)
  where
    counted-nothing : (b : Bool) → counted b (pos 0) ≡ pos 0
    counted-nothing true = refl
    counted-nothing false = refl
balance net (s ∷ walk) i there =
    let on_arc = there 0 (omega arith) in
    let rest = balance net walk i (λ k l. there (suc k) (omega arith)) in
    let out = at_one (length net.arcs) (tail net) i s.arc.0 (sign s.forward) (uses walk) on_arc in
    let into = at_one (length net.arcs) (head net) i s.arc.0 (sign s.forward) (uses walk) on_arc in
    let here = one_step s.forward i (tail net s.arc.0) (head net s.arc.0) in
    omega (arith, ints)

pub circuit_flow : (net : Network) (walk : List Step) → IsCircuit net walk → WalkIsThere net walk → IsConserved net (uses walk)
circuit_flow net walk circuit there i l =
    let total = balance net walk i there in
    let none = around net (mark_of i) walk circuit in
    omega (arith, ints)

-- ---- how it passes an arc

pub uses-none : (walk : List Step) (q : ℕ) → ((k : ℕ) → k < length walk → (step walk k).arc.0 ≢ q) → uses walk q ≡ pos 0
uses-none [] q off = refl
uses-none (s ∷ walk) q off =
    let rest = uses-none walk q (λ k l. off (suc k) (omega arith)) in
    rw (ne_eqb s.arc.0 q (off 0 (omega arith))) (omega (arith, ints))

pub uses-passing : (walk : List Step) (q : ℕ) → ((i k : ℕ) → i < k → k < length walk → (step walk i).arc.0 ≢ (step walk k).arc.0) → uses walk q ≡ passing walk q
uses-passing [] q differ = refl
uses-passing (s ∷ walk) q differ =
    ⊎_elim
    (λ (e : s.arc.0 ≡ q).
    let rest = uses-none walk q (λ k l same. differ 0 (suc k) (omega arith) (omega arith) (e ∙ sym same)) in
    rw (eq-eqb s.arc.0 q e) (omega (arith, ints)))
    (λ (ne : s.arc.0 ≡ q → ⊥).
    let rest = uses-passing walk q (λ i k l m. differ (suc i) (suc k) (omega arith) (omega arith)) in
    rw (ne_eqb s.arc.0 q ne) (omega (arith, ints)))
    (cases_eq s.arc.0 q)

pub data IsUnit : ℤ → Type 0 where
  minus : IsUnit (negsuc 0)
  none : IsUnit (pos 0)
  plus : IsUnit (pos 1)

pub passing-unit : (walk : List Step) (q : ℕ) → IsUnit (passing walk q)
passing-unit [] q = none
passing-unit (s ∷ walk) q = by_test (s.arc.0 == q) s.forward (passing-unit walk q)
  where
    by_test : (b forward : Bool) → IsUnit (passing walk q) → IsUnit (cond b (cond forward (pos 1) (negsuc 0)) (passing walk q))
    by_test true true rest = plus
    by_test true false rest = minus
    by_test false forward rest = rest

-- a step of the walk is over the arc: it isn't passed 0 times
pub passing-step : (walk : List Step) (k q : ℕ) → k < length walk → (step walk k).arc.0 ≡ q → passing walk q ≢ pos 0
passing-step [] k q l e = absurd (omega arith)
passing-step (s ∷ walk) k q l e =
    ⊎_elim
    (λ (hit : s.arc.0 ≡ q). rw (eq-eqb s.arc.0 q hit) (by_direction s.forward))
    (λ (ne : s.arc.0 ≡ q → ⊥). rw (ne_eqb s.arc.0 q ne) (later k l e ne (λ i. passing-step walk i q)))
    (cases_eq s.arc.0 q)
  where
    by_direction : (forward : Bool) → cond forward (pos 1) (negsuc 0) ≢ pos 0
    by_direction true h = omega (arith, ints)
    by_direction false h = omega (arith, ints)

    later : (k : ℕ) → k < length (s ∷ walk) → (step (s ∷ walk) k).arc.0 ≡ q → (s.arc.0 ≡ q → ⊥)
        → ((i : ℕ) → i < length walk → (step walk i).arc.0 ≡ q → passing walk q ≢ pos 0) → passing walk q ≢ pos 0
    later zero l e ne rest = absurd (ne e)
    later (suc k) l e ne rest = rest k (omega arith) e

pub passing-first : (walk : List Step) (q : ℕ) → 0 < length walk → step walk 0 ≡ record { arc = record { 0 = q }; forward = true } → passing walk q ≡ pos 1
passing-first [] q l e = absurd (omega arith)
passing-first (s ∷ walk) q l e = rw (e, eq-eqb q q refl)

-- ---- the circuit that an arc closes

differ-at : (f : Step → ℕ) (walk : List Step) → AllDiffer f walk → (i k : ℕ) → i < k → k < length walk → f (step walk i) ≢ f (step walk k)
differ-at f [] all i k l m = absurd (omega arith)
differ-at f (s ∷ walk) all i zero l m = absurd (omega arith)
differ-at f (s ∷ walk) all zero (suc k) l m = λ e. Each-at (λ t. f t ≢ f s) walk all.0 k (omega arith) (sym e)
differ-at f (s ∷ walk) all (suc i) (suc k) l m = differ-at f walk all.1 i k (omega arith) (omega arith)

begins-differ : (net : Network) (a b : ℕ) (walk : List Step) → IsWay net a walk b → AllDiffer (begin_of net) walk
begins-differ net a b [] way = tt
begins-differ net a b (s ∷ walk) way = (
  Each-map (λ t. begin_of net t ≢ a) (λ t. begin_of net t ≢ begin_of net s) walk (λ t ne e. ne (e ∙ way.0)) way.2,
  begins-differ net (end_of net s) b walk way.3,
)

begins-off : (net : Network) (a b : ℕ) (walk : List Step) → IsWay net a walk b → Each (λ t. begin_of net t ≢ b) walk
begins-off net a b [] way = tt
begins-off net a b (s ∷ walk) way = (λ e. way.1 (sym e ∙ way.0), begins-off net (end_of net s) b walk way.3)

joined-at : (net : Network) (b : ℕ) (s : Step) (walk : List Step) → IsWay net (end_of net s) walk b
    → (k : ℕ) → k + 1 < length (s ∷ walk) → end_of net (step (s ∷ walk) k) ≡ begin_of net (step (s ∷ walk) (k + 1))
joined-at net b s [] way k l = absurd (omega arith)
joined-at net b s (t ∷ walk) way zero l = sym way.0
joined-at net b s (t ∷ walk) way (suc k) l =
    let e : suc k + 1 ≡ suc (k + 1) = omega arith in rw e (joined-at net b t walk way.3 k (omega arith))

closed-at : (net : Network) (b : ℕ) (s : Step) (walk : List Step) → IsWay net (end_of net s) walk b
    → (k : ℕ) → k + 1 ≡ length (s ∷ walk) → end_of net (step (s ∷ walk) k) ≡ b
closed-at net b s [] way zero e = way
closed-at net b s [] way (suc k) e = absurd (omega arith)
closed-at net b s (t ∷ walk) way zero e = absurd (omega arith)
closed-at net b s (t ∷ walk) way (suc k) e = closed-at net b t walk way.3 k (omega arith)

-- the arc j forward, and a path back from its head to its tail
abbrev pub after : ℕ → List Step → List Step
after j walk = record { arc = record { 0 = j }; forward = true } ∷ walk

pub circuit_of : (net : Network) (arcs : List ℕ) (j : ℕ) (walk : List Step) → IsPath net arcs (head net j) (tail net j) walk → (HasArc arcs j → ⊥)
    → IsCircuitOf net arcs j (after j walk)
circuit_of net arcs j walk path off =
    let s : Step = record { arc = record { 0 = j }; forward = true } in
    record {
      circuit = record {
        not_empty = omega arith;
        joined = joined-at net (tail net j) s walk path.way;
        closed = closed-at net (tail net j) s walk path.way;
        nodes_differ = differ-at (begin_of net) (s ∷ walk) (begins-off net (head net j) (tail net j) walk path.way, begins-differ net (head net j) (tail net j) walk path.way);
        arcs_differ = differ-at (λ t. t.arc.0) (s ∷ walk)
            (Each-map (λ t. HasArc arcs t.arc.0) (λ t. t.arc.0 ≢ j) walk (λ t h e. off (record { place = h.place; there = h.there; is = h.is ∙ e })) path.over, path.differ);
      };
      begins = refl;
      goes_on = goes;
    }
  where
    goes : (k : ℕ) → 0 < k → k < length (after j walk) → HasArc arcs (step (after j walk) k).arc.0
    goes zero l m = absurd (omega arith)
    goes (suc k) l m = Each-at (λ t. HasArc arcs t.arc.0) walk path.over k (omega arith)
