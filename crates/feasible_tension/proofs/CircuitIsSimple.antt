-- The walk that goes round backward, turned round, is a circuit. Each step ends where the next one begins, by the labels. The nodes
-- are different: one that comes twice would bring the start back too early. An arc that stands twice would be passed both ways;
-- then the second time begins where the first ends and the other way round, so these two steps are the whole circuit. But their
-- span ends are the upper one less the lower one of a span, which is not below 0.
use Rattle.std.proofs.Common.{◌≡◌, ◌≢◌, ℕ, zero, suc, ◌+◌, ◌-◌, ◌<◌, ◌≤◌, pos, ◌+ℤ◌, ◌≤ℤ◌, ◌<ℤ◌, Bool, true, false, Option, None, List, [], ◌∷◌, length, reverse, sym, ap, ◌∙◌, subst, ⊎_elim, arith}
use Rattle.std.proofs.lemmas.Bool.{cases_lt}
use Rattle.std.proofs.lemmas.Int.{ints}
use Rattle.std.proofs.lemmas.List.{get_or-reverse, length-reverse}
use Rattle.theory.specs.declared.network.Step.{Step}
use Rattle.theory.specs.Sums.{Each}
use Rattle.theory.specs.Ends.{IsFinite, whole}
use Rattle.theory.specs.Network.{Network}
use Rattle.theory.specs.Circuit.{step, begin_of, end_of, span_end, span_sum, SpanCounts, WalkIsThere, IsNegativeCircuit}
use Rattle.net_incidence.specs.Incidence.{over}
use Rattle.painted_search.specs.Room.{Room}
use Rattle.feasible_tension.specs.Back.{back}
use Rattle.feasible_tension.specs.Relaxing.{IsRelaxing}
use Rattle.feasible_tension.specs.Lap.{IsLap}
use Rattle.feasible_tension.proofs.Steps.{IsTurned, one_arc}
use Rattle.feasible_tension.proofs.Bounded.{IsBounded, there_and_back}
use Rattle.feasible_tension.proofs.Rounds.{parent-labelled}
use Rattle.feasible_tension.proofs.CircuitIsNegative.{comes-again}

-- ---- where the steps of the turned walk lie

record Turned (net : Network) (labels : List (Option Step)) (root : ℕ) (walk : List Step) (k : ℕ) : Type 0 where
  place : ℕ
  rest : place + suc k ≡ length walk
  there : (step (reverse walk) k).arc.0 < length net.arcs
  begins : begin_of net (step (reverse walk) k) ≡ back net labels (suc place) root
  ends : end_of net (step (reverse walk) k) ≡ back net labels place root

turned : (net : Network) (r root : ℕ) (v : Room) (walk : List Step) → IsRelaxing net r 0 None v → IsLap net v.labels root walk
    → (k : ℕ) → k < length walk → Turned net v.labels root walk k
turned net r root v walk relaxing lap k l =
    let p = length walk - 1 - k in
    let is : step (reverse walk) k ≡ step walk p = get_or-reverse walk k _ l in
    let led = lap.led p (omega arith) in
    let label = relaxing.labels (back net v.labels p root) (step walk p) led in
    record {
      place = p;
      rest = omega arith;
      there = subst (λ (s : Step). s.arc.0 < length net.arcs) (sym is) label.there;
      begins = ap (begin_of net) is ∙ sym (parent-labelled net v.labels (back net v.labels p root) (step walk p) led);
      ends = ap (end_of net) is ∙ label.ends;
    }

pub lap-there : (net : Network) (r root : ℕ) (v : Room) (walk : List Step) → IsRelaxing net r 0 None v → IsLap net v.labels root walk
    → WalkIsThere net (reverse walk)
lap-there net r root v walk relaxing lap k l =
    let same = length-reverse walk in
    (turned net r root v walk relaxing lap k (omega (arith, same, l))).there

-- nodes on the way round are different
differ : (net : Network) (labels : List (Option Step)) (root : ℕ) (walk : List Step) → IsLap net labels root walk → (a b : ℕ) → 0 < a → a < b
    → b ≤ length walk → back net labels a root ≢ back net labels b root
differ net labels root walk lap a b some before within same =
    lap.not_before (b - a) (omega arith) (omega arith)
    (comes-again net labels root (length walk) a b (b - a) lap.comes_again (omega arith) (omega arith) same)

-- ---- two steps over one arc

over_both_ways : (net : Network) (j : ℕ) (a b : Bool) → IsBounded net → j < length net.arcs → IsTurned net (over j a) (over j b)
    → IsFinite (span_end net (over j a)) → IsFinite (span_end net (over j b))
    → pos 0 ≤ℤ (whole (span_end net (over j a)) +ℤ whole (span_end net (over j b)))
over_both_ways net j true true good l turn first second =
    absurd
    (⊎_elim
    (λ (w : (true ≡ true) × (true ≡ false)). let e = w.1 in cc)
    (λ (w : (true ≡ false) × (true ≡ true)). let e = w.0 in cc)
    turn.ways)
over_both_ways net j true false good l turn first second = there_and_back net j good l first second
over_both_ways net j false true good l turn first second = let least = there_and_back net j good l second first in omega (arith, ints)
over_both_ways net j false false good l turn first second =
    absurd
    (⊎_elim
    (λ (w : (false ≡ true) × (false ≡ false)). let e = w.0 in cc)
    (λ (w : (false ≡ false) × (false ≡ true)). let e = w.1 in cc)
    turn.ways)

both_ways : (net : Network) (r s : Step) → IsBounded net → r.arc.0 < length net.arcs → r.arc.0 ≡ s.arc.0 → IsTurned net r s
    → IsFinite (span_end net r) → IsFinite (span_end net s) → pos 0 ≤ℤ (whole (span_end net r) +ℤ whole (span_end net s))
both_ways net r s good l same =
    let P : ℕ → Type 0 = λ j.
    IsTurned net r (over j s.forward) → IsFinite (span_end net r) → IsFinite (span_end net (over j s.forward))
    → pos 0 ≤ℤ (whole (span_end net r) +ℤ whole (span_end net (over j s.forward))) in
    subst P same (over_both_ways net r.arc.0 r.forward s.forward good l)

sum_of_two : (net : Network) (walk : List Step) → length walk ≡ 2
    → span_sum net walk ≡ whole (span_end net (step walk 0)) +ℤ whole (span_end net (step walk 1))
sum_of_two net [] two = absurd (omega arith)
sum_of_two net (r ∷ []) two = absurd (omega arith)
sum_of_two net (r ∷ s ∷ []) two = omega (arith, ints)
sum_of_two net (r ∷ s ∷ t ∷ rest) two = absurd (omega arith)

each_at : (P : Step → Type 0) (walk : List Step) → Each P walk → (k : ℕ) → k < length walk → P (step walk k)
each_at P [] each k l = absurd (omega arith)
each_at P (s ∷ walk) each zero l = each.0
each_at P (s ∷ walk) each (suc k) l = each_at P walk each.1 k (omega arith)

-- a walk of two steps there and back is no negative one
two_not_negative : (net : Network) (walk : List Step) → IsBounded net → length walk ≡ 2 → (step walk 0).arc.0 < length net.arcs
    → (step walk 0).arc.0 ≡ (step walk 1).arc.0 → IsTurned net (step walk 0) (step walk 1) → SpanCounts net walk
    → span_sum net walk <ℤ pos 0 → ⊥
two_not_negative net walk good two there same turn counts negative =
    let at = each_at (λ s. IsFinite (span_end net s)) walk counts in
    let least = both_ways net (step walk 0) (step walk 1) good there same turn (at 0 (omega arith)) (at 1 (omega arith)) in
    let sum = sum_of_two net walk two in
    omega (arith, ints)

-- ---- the circuit

begins_differ : (net : Network) (r root : ℕ) (v : Room) (walk : List Step) → IsRelaxing net r 0 None v → IsLap net v.labels root walk
    → (i k : ℕ) → i < k → k < length walk → begin_of net (step (reverse walk) i) ≢ begin_of net (step (reverse walk) k)
begins_differ net r root v walk relaxing lap i k before l same =
    let p = turned net r root v walk relaxing lap i (omega arith) in
    let q = turned net r root v walk relaxing lap k l in
    let p_rest = p.rest in
    let q_rest = q.rest in
    differ net v.labels root walk lap (suc q.place) (suc p.place) (omega arith) (omega arith) (omega arith)
    (sym q.begins ∙ sym same ∙ p.begins)

-- of two steps of a lap that are each the other turned, one is the first and the other the second, and there is no third
record AreAll (walk : List Step) (i k : ℕ) : Type 0 where
  two : length walk ≡ 2
  first : i ≡ 0
  second : k ≡ 1

turned-all : (net : Network) (r root : ℕ) (v : Room) (walk : List Step) → IsRelaxing net r 0 None v → IsLap net v.labels root walk
    → (i k : ℕ) → i < k → k < length walk → IsTurned net (step (reverse walk) i) (step (reverse walk) k) → AreAll walk i k
turned-all net r root v walk relaxing lap i k before l turn =
    let way = λ (t : ℕ). back net v.labels t root in
    let p = turned net r root v walk relaxing lap i (omega arith) in
    let q = turned net r root v walk relaxing lap k l in
    let p_rest = p.rest in
    let q_rest = q.rest in
    let out : way (suc p.place) ≡ way q.place = sym p.begins ∙ turn.begins ∙ q.ends in
    let home : way p.place ≡ way (suc q.place) = sym p.ends ∙ turn.ends ∙ q.begins in
    ⊎_elim
    (λ (inner : 0 < q.place). absurd (differ net v.labels root walk lap q.place (suc p.place) inner (omega arith) (omega arith) (sym out)))
    (λ (last : q.place ≤ 0).
    let none : q.place ≡ 0 = omega arith in
    ⊎_elim
    (λ (early : suc p.place < length walk). absurd (lap.not_before (suc p.place) (omega arith) early (out ∙ ap way none)))
    (λ (full : length walk ≤ suc p.place).
    ⊎_elim
    (λ (far : suc q.place < p.place).
    absurd (differ net v.labels root walk lap (suc q.place) p.place (omega arith) far (omega arith) (sym home)))
    (λ (near : p.place ≤ suc q.place). record { two = omega arith; first = omega arith; second = omega arith })
    (cases_lt (suc q.place) p.place))
    (cases_lt (suc p.place) (length walk)))
    (cases_lt 0 q.place)

-- two steps over one arc that are each the other turned
record AreTurned (net : Network) (walk : List Step) (i k : ℕ) : Type 0 where
  there : (step walk i).arc.0 < length net.arcs
  one_arc : (step walk i).arc.0 ≡ (step walk k).arc.0
  turn : IsTurned net (step walk i) (step walk k)

arcs_differ : (net : Network) (r root : ℕ) (v : Room) (walk : List Step) → IsBounded net → IsRelaxing net r 0 None v → IsLap net v.labels root walk
    → (i k : ℕ) → i < k → k < length walk → (step (reverse walk) i).arc.0 ≢ (step (reverse walk) k).arc.0
arcs_differ net r root v walk good relaxing lap i k before l same =
    let p = turned net r root v walk relaxing lap i (omega arith) in
    ⊎_elim
    (λ (is : step (reverse walk) i ≡ step (reverse walk) k). begins_differ net r root v walk relaxing lap i k before l (ap (begin_of net) is))
    (λ (turn : IsTurned net (step (reverse walk) i) (step (reverse walk) k)).
    let all = turned-all net r root v walk relaxing lap i k before l turn in
    let both : AreTurned net (reverse walk) i k = record { there = p.there; one_arc = same; turn = turn } in
    let first_two = subst (AreTurned net (reverse walk) 0) all.second (subst (λ i. AreTurned net (reverse walk) i k) all.first both) in
    let count = length-reverse walk in
    two_not_negative net (reverse walk) good (omega (arith, all.two)) first_two.there first_two.one_arc first_two.turn lap.counts lap.negative)
    (one_arc net (step (reverse walk) i) (step (reverse walk) k) same)

pub lap-circuit : (net : Network) (r root : ℕ) (v : Room) (walk : List Step) → IsBounded net → IsRelaxing net r 0 None v
    → IsLap net v.labels root walk → IsNegativeCircuit net (reverse walk)
lap-circuit net r root v walk good relaxing lap =
    let at = turned net r root v walk relaxing lap in
    let way = λ (t : ℕ). back net v.labels t root in
    let count = length-reverse walk in
    let some = lap.some in
    record {
      circuit = record {
        not_empty = omega arith;
        joined = λ k l.
            let p = at k (omega arith) in
            let q = at (k + 1) (omega arith) in
            let next : p.place ≡ suc q.place = (let p_rest = p.rest in let q_rest = q.rest in omega arith) in
            p.ends ∙ ap way next ∙ sym q.begins;
        closed = λ k last.
            let p = at k (omega arith) in
            let q = at 0 (omega arith) in
            let none : p.place ≡ 0 = (let p_rest = p.rest in omega arith) in
            let all : length walk ≡ suc q.place = (let q_rest = q.rest in omega arith) in
            p.ends ∙ ap way none ∙ sym lap.comes_again ∙ ap way all ∙ sym q.begins;
        nodes_differ = λ i k before l. begins_differ net r root v walk relaxing lap i k before (omega arith);
        arcs_differ = λ i k before l. arcs_differ net r root v walk good relaxing lap i k before (omega arith);
      };
      counts = lap.counts;
      negative = lap.negative;
    }
