-- An amount moved round a circuit of steps that all have room for it. Each arc's flow moves by the amount at most, and its
-- violation doesn't grow; that of the first arc, which lacks the amount, falls by it. So the total violation falls by the
-- amount at least, and each flow stays as near to 0 as the violations have fallen together. What the steps of a circuit
-- bring to a node adds up to nothing, so the flow stays conserved.
use Rattle.std.proofs.Common.{◌≡◌, ◌≢◌, ℕ, zero, suc, ◌+◌, ◌<◌, ◌≤◌, ℤ, pos, ◌+ℤ◌, ◌*ℤ◌, ◌≤ℤ◌, Bool, true, false, ◌==◌, List, ◌∷◌, length, sym, ◌∙◌, ⊎_elim, arith}
use Rattle.std.proofs.lemmas.Int.{ints}
use Rattle.std.proofs.lemmas.Bool.{cases_lt}
use Rattle.theory.specs.declared.ext.Ext.{Ext}
use Rattle.theory.specs.declared.network.Step.{Step}
use Rattle.theory.specs.Sums.{sum_below, counted, total_below}
use Rattle.theory.specs.Network.{«at», tail, head, list_at}
use Rattle.theory.specs.Conserved.{IsConserved, divergence}
use Rattle.theory.specs.Circuit.{step, begin_of, end_of, IsCircuit, WalkIsThere}
use Rattle.theory.proofs.Unbounded.{brought, mark_of}
use Rattle.theory.specs.Sent.{sends, sent_round}
use Rattle.theory.proofs.Refusals.{around}
use Rattle.theory.proofs.SumsBelow.{sum_below-zero, counted-zero}
use Rattle.theory.proofs.SumLaw.{divergence-conserved}
use Rattle.net_incidence.specs.Graph.{Graph, bare}
use Rattle.painted_search.specs.Path.{IsFreePath}
use Rattle.theory.proofs.Counting.{total_below-order, total_below-term}
use Rattle.feasible_flow.specs.Painting.{painting}
use Rattle.feasible_flow.specs.Violations.{IsNeed, violation, violation_at, total_violation, needed, HasRoom, movable_most, AreNear}
use Rattle.feasible_flow.specs.UnderWay.{IsUnderWay, AreNoFurther, IsNearer, AllHaveRoom}
use Rattle.feasible_flow.proofs.OneArc.{violation-no_further, violation-falls, need-room, needed-most}
use Rattle.feasible_flow.proofs.Lists.{AreCurves}
use Rattle.feasible_flow.proofs.PathClosesCircuit.{closes}
use Rattle.feasible_flow.proofs.Sending.{divergence-sent, length-sent, sent-here, sent-elsewhere, passes}

-- ---- sums

-- where no term grows and one falls by t, so does the sum
pub total_below-falls : (n i t : ℕ) (f g : ℕ → ℕ) → i < n → ((k : ℕ) → g k ≤ f k) → g i + t ≤ f i
    → total_below n g + t ≤ total_below n f
total_below-falls zero i t f g l less falls = absurd (omega arith)
total_below-falls (suc n) i t f g l less falls =
    let last = less n in
    ⊎_elim
    (λ (below : i < n). let e = total_below-falls n i t f g below less falls in omega arith)
    (λ (above : n ≤ i).
    let hit : i ≡ n = omega arith in
    let here : g n + t ≤ f n = rw (← hit) falls in
    let rest = total_below-order n g f (λ k h. less k) in
    omega arith)
    (cases_lt i n)

-- with more terms a sum of counts doesn't fall
total_below-grows : (k n : ℕ) (f : ℕ → ℕ) → k ≤ n → total_below k f ≤ total_below n f
total_below-grows k zero f l = let e : k ≡ 0 = omega arith in rw e (omega arith)
total_below-grows k (suc n) f l =
    ⊎_elim
    (λ (below : k < suc n). let rest = total_below-grows k n f (omega arith) in omega arith)
    (λ (above : suc n ≤ k). let e : k ≡ suc n = omega arith in rw e (omega arith))
    (cases_lt k (suc n))

-- ---- one arc of the circuit

record IsMoved (items : List Ext) (t : ℕ) (x y : ℤ) : Type 0 where
  no_further : violation items y ≤ violation items x
  up : y ≤ℤ (x +ℤ pos t)
  down : x ≤ℤ (y +ℤ pos t)

moved-not : (items : List Ext) (t : ℕ) (x y : ℤ) → y ≡ x → IsMoved items t x y
moved-not items t x y same =
    rw same (record { no_further = omega arith; up = omega (arith, ints); down = omega (arith, ints) })

sends-up : (x : ℤ) (t : ℕ) (forward : Bool) → (x +ℤ sends t forward) ≤ℤ (x +ℤ pos t)
sends-up x t true = omega (arith, ints)
sends-up x t false = omega (arith, ints)

sends-down : (x : ℤ) (t : ℕ) (forward : Bool) → x ≤ℤ ((x +ℤ sends t forward) +ℤ pos t)
sends-down x t true = omega (arith, ints)
sends-down x t false = omega (arith, ints)

moved-by : (items : List Ext) (t : ℕ) (x y : ℤ) (forward : Bool) → HasRoom items x forward t → y ≡ x +ℤ sends t forward → IsMoved items t x y
moved-by items t x y forward room same =
    rw same (record { no_further = violation-no_further items x forward t room; up = sends-up x t forward; down = sends-down x t forward })

-- ---- all arcs

record IsSentRound (g : Graph) (lists : List (List Ext)) (t : ℕ) (walk : List Step) (x : List ℤ) : Type 0 where
  one_each : length x ≡ length g.arcs
  circuit : IsCircuit (bare g) walk
  there : WalkIsThere (bare g) walk
  rooms : AllHaveRoom lists x walk t
  lacks : t ≤ needed (list_at lists (step walk 0).arc.0) («at» x (step walk 0).arc.0) (step walk 0).forward

each-moved : (g : Graph) (lists : List (List Ext)) (t : ℕ) (walk : List Step) (x : List ℤ) → IsSentRound g lists t walk x → (j : ℕ)
    → IsMoved (list_at lists j) t («at» x j) («at» (sent_round t walk x) j)
each-moved g lists t walk x round j =
    ⊎_elim
    (λ (passed : (k : ℕ) × (k < length walk) × ((step walk k).arc.0 ≡ j)).
    let k = passed.0 in
    let there = round.there k passed.1 in
    let same_length = round.one_each in
    let here = moved-by (list_at lists (step walk k).arc.0) t («at» x (step walk k).arc.0) («at» (sent_round t walk x) (step walk k).arc.0)
    (step walk k).forward (round.rooms k passed.1)
    (sent-here t walk x k round.circuit.arcs_differ passed.1 (omega (arith, there, same_length))) in
    rw (← passed.2) here)
    (λ (apart : (k : ℕ) → k < length walk → j ≢ (step walk k).arc.0).
    moved-not (list_at lists j) t («at» x j) («at» (sent_round t walk x) j) (sent-elsewhere t walk x j apart))
    (passes walk j)

no_further-sent : (g : Graph) (lists : List (List Ext)) (t : ℕ) (walk : List Step) (x : List ℤ) → IsSentRound g lists t walk x
    → AreNoFurther lists x (sent_round t walk x)
no_further-sent g lists t walk x round j = (each-moved g lists t walk x round j).no_further

total-falls : (g : Graph) (lists : List (List Ext)) (t : ℕ) (walk : List Step) (x : List ℤ) → IsSentRound g lists t walk x
    → total_violation (length g.arcs) lists (sent_round t walk x) + t ≤ total_violation (length g.arcs) lists x
total-falls g lists t walk x round =
    let s = step walk 0 in
    let there = round.there 0 round.circuit.not_empty in
    let same_length = round.one_each in
    let here = sent-here t walk x 0 round.circuit.arcs_differ round.circuit.not_empty (omega (arith, there, same_length)) in
    let falls = violation-falls (list_at lists s.arc.0) («at» x s.arc.0) s.forward t (round.rooms 0 round.circuit.not_empty) round.lacks in
    total_below-falls (length g.arcs) s.arc.0 t (violation_at lists x) (violation_at lists (sent_round t walk x)) there
    (no_further-sent g lists t walk x round) (rw here falls)

balanced : (t : ℕ) (d e b : ℤ) → e +ℤ pos t *ℤ b ≡ d → b ≡ pos 0 → d ≡ pos 0 → e ≡ pos 0
balanced t d e b round nothing before = let h = rw nothing at round in omega (arith, ints)

conserved-sent : (g : Graph) (lists : List (List Ext)) (t : ℕ) (walk : List Step) (x : List ℤ) → IsSentRound g lists t walk x
    → IsConserved (bare g) («at» x) → IsConserved (bare g) («at» (sent_round t walk x))
conserved-sent g lists t walk x round conserved i l =
    let still = balanced t (divergence (bare g) («at» x) i) (divergence (bare g) («at» (sent_round t walk x)) i) (brought (bare g) i walk)
    (divergence-sent g t walk x round.one_each round.there i) (around (bare g) (mark_of i) walk round.circuit)
    (divergence-conserved (bare g) («at» x) conserved i l) in
    omega (arith, ints)

under_way-sent : (g : Graph) (lists : List (List Ext)) (bound t : ℕ) (walk : List Step) (x : List ℤ) → IsUnderWay g lists bound x
    → IsSentRound g lists t walk x → IsUnderWay g lists bound (sent_round t walk x)
under_way-sent g lists bound t walk x way round =
    let falls = total-falls g lists t walk x round in
    record {
      few = way.few;
      one_each = length-sent t walk x ∙ way.one_each;
      conserved = conserved-sent g lists t walk x round way.conserved;
      high = λ j. let moved = (each-moved g lists t walk x round j).up in let before = way.high j in omega (arith, ints);
      low = λ j. let moved = (each-moved g lists t walk x round j).down in let before = way.low j in omega (arith, ints);
    }

-- ---- a need, and a path that has room for some of it

is-sent_round : (g : Graph) (lists : List (List Ext)) (bound : ℕ) (x : List ℤ) (walk : List Step) (s : Step) (need amount from to : ℕ)
    → AreCurves lists → IsUnderWay g lists bound x → s.arc.0 < length g.arcs
    → IsNeed (list_at lists s.arc.0) («at» x s.arc.0) s.forward need → from ≡ end_of (bare g) s → to ≡ begin_of (bare g) s
    → IsFreePath (bare g) (painting lists x) walk from to → 1 ≤ amount → amount ≤ need → AllHaveRoom lists x walk amount
    → IsSentRound g lists amount (s ∷ walk) x
is-sent_round g lists bound x walk s need amount from to curves way there lacks from_is to_is path some most rooms =
    let few : amount ≤ needed (list_at lists s.arc.0) («at» x s.arc.0) s.forward = omega (arith, most, lacks.exact) in
    let back : IsFreePath (bare g) (painting lists x) walk (end_of (bare g) s) (begin_of (bare g) s) = rw (← from_is, ← to_is) path in
    record {
      one_each = way.one_each;
      circuit = closes g lists x walk s there (omega (arith, some, few)) back;
      there = λ k l. all_there k l;
      rooms = λ k l. all_rooms few k l;
      lacks = few;
    }
  where
    all_there : (k : ℕ) → k < length (s ∷ walk) → (step (s ∷ walk) k).arc.0 < length g.arcs
    all_there zero l = there
    all_there (suc k) l = path.there k (omega arith)

    all_rooms : amount ≤ needed (list_at lists s.arc.0) («at» x s.arc.0) s.forward → AllHaveRoom lists x (s ∷ walk) amount
    all_rooms few zero l = need-room (list_at lists s.arc.0) («at» x s.arc.0) s.forward amount (curves.are_lists s.arc.0) some few
    all_rooms few (suc k) l = rooms k (omega arith)

-- a round brings the flows nearer
pub nearer-sent : (g : Graph) (lists : List (List Ext)) (bound : ℕ) (x y : List ℤ) (walk : List Step) (s : Step) (need amount from to : ℕ)
    → AreCurves lists → IsUnderWay g lists bound x → s.arc.0 < length g.arcs
    → IsNeed (list_at lists s.arc.0) («at» x s.arc.0) s.forward need → from ≡ end_of (bare g) s → to ≡ begin_of (bare g) s
    → IsFreePath (bare g) (painting lists x) walk from to → 1 ≤ amount → amount ≤ need → AllHaveRoom lists x walk amount
    → y ≡ sent_round amount (s ∷ walk) x → IsNearer g lists bound x y
nearer-sent g lists bound x y walk s need amount from to curves way there lacks from_is to_is path some most rooms round_is =
    let round = is-sent_round g lists bound x walk s need amount from to curves way there lacks from_is to_is path some most rooms in
    let falls = total-falls g lists amount (s ∷ walk) x round in
    rw round_is
    (record {
      under_way = under_way-sent g lists bound amount (s ∷ walk) x way round;
      no_further = no_further-sent g lists amount (s ∷ walk) x round;
      falls = omega (arith, falls, some);
    })

-- ---- ranges

total-within : (g : Graph) (lists : List (List Ext)) (bound : ℕ) (x : List ℤ) → IsUnderWay g lists bound x
    → total_violation (length g.arcs) lists x ≤ bound
total-within g lists bound x way = let h = way.high 0 in let l = way.low 0 in omega (arith, ints)

pub flow-within : (g : Graph) (lists : List (List Ext)) (bound : ℕ) (x : List ℤ) → IsUnderWay g lists bound x → AreNear bound x
flow-within g lists bound x way j = let h = way.high j in let l = way.low j in (omega (arith, ints), omega (arith, ints))

pub flow-near : (g : Graph) (lists : List (List Ext)) (bound : ℕ) (x : List ℤ) → IsUnderWay g lists bound x → AreNear movable_most x
flow-near g lists bound x way j =
    let within = flow-within g lists bound x way j in
    let few = way.few in
    (omega (arith, ints), omega (arith, ints))

pub need-within : (g : Graph) (lists : List (List Ext)) (bound : ℕ) (x : List ℤ) (j need amount : ℕ) (forward : Bool) → IsUnderWay g lists bound x
    → j < length g.arcs → IsNeed (list_at lists j) («at» x j) forward need → amount ≤ need → amount ≤ bound
need-within g lists bound x j need amount forward way there lacks most =
    let all = total-within g lists bound x way in
    let term = total_below-term (length g.arcs) j (violation_at lists x) there in
    let here = needed-most (list_at lists j) («at» x j) forward in
    omega (arith, lacks.exact)

-- violations that are together more than the amount have used it up at some arc
pub lacks-more : (m j amount left lacks : ℕ) (lists : List (List Ext)) (x : List ℤ) → j < m → left + total_violation j lists x ≡ amount
    → lacks ≡ violation_at lists x j → left < lacks → amount < total_violation m lists x
lacks-more m j amount left lacks lists x there rest is less =
    let grows = total_below-grows (suc j) m (violation_at lists x) (omega arith) in
    omega (arith, grows, rest, is, less)

-- ---- flows of 0

zero-outflow : (n : ℕ) (pick : ℕ → Bool) (x : ℕ → ℤ) → ((j : ℕ) → x j ≡ pos 0) → sum_below n (λ j. counted (pick j) (x j)) ≡ pos 0
zero-outflow n pick x zeros = sum_below-zero n (λ j. counted (pick j) (x j)) (λ k l. counted-zero (pick k) (x k) (zeros k))

pub zero-conserved : (g : Graph) (x : ℕ → ℤ) → ((j : ℕ) → x j ≡ pos 0) → IsConserved (bare g) x
zero-conserved g x zeros i l =
    zero-outflow (length g.arcs) (λ j. tail (bare g) j == i) x zeros
    ∙ sym (zero-outflow (length g.arcs) (λ j. head (bare g) j == i) x zeros)
