-- A certificate has one verdict, and it is accepted exactly where it is valid.
-- A verdict is that of a row of tests: it is what the first test that fails has found, or, where all pass, that the
-- certificate is accepted. Each test finds at most one thing, and never where it passes. So two verdicts are of the same
-- test, since else the earlier of their tests would both fail and pass, and then they say the same.
-- A certificate is valid where every test passes. Then accepted is a verdict, and so the only one.
use Rattle.std.proofs.Common.{◌≡◌, ◌↔◌, ℕ, zero, suc, ◌<◌, inl, inr, List, [], ◌∷◌, Bool, length, refl, sym, ap, ap₂, ◌∙◌, subst, ℤ, pos, ◌≤ℤ◌, ◌<ℤ◌, arith}
use Rattle.std.proofs.lemmas.Int.{ints}
use Rattle.theory.specs.declared.network.Step.{Step}
use Rattle.theory.specs.First.{IsFirstFailing}
use Rattle.theory.specs.Sums.{Each}
use Rattle.theory.specs.Ends.{IsFinite}
use Rattle.theory.specs.Network.{Network, «at»}
use Rattle.theory.specs.Feasible.{IsFeasibleFlow}
use Rattle.theory.specs.Totals.{total_cost, total_value}
use Rattle.theory.specs.Cut.{cut_end, cut_sum}
use Rattle.theory.specs.Circuit.{step, span_end, span_sum, SpanCounts, IsCircuit}
use Rattle.theory.specs.Certificate.{Certificate, Fits, IsValid}
use Rattle.theory.specs.Certificate.Certificate.{optimal, cut, circuit}
use Rattle.theory.proofs.First.{one_first}
use Rattle.net_incidence.specs.BadStep.{IsBadStep, IsFirstBadStep, IsFault}
use Rattle.net_incidence.proofs.BadSteps.{circuit-no_bad, circuit-closed}
use Rattle.cert_check.specs.declared.judged.Judged.{Judged}
use Rattle.cert_check.specs.declared.judged.Judged.TheVariants.{Accepted, NotConserved, OffCurve, OutOfCapacity, NotCircuit, Endless, WrongNumber, NotNegative}
use Rattle.cert_check.specs.Verdict.{IsBalanced, IsPairOfCurve, IsInCapacity, IsWrong, OnPair, OnCut, OnCircuit, IsVerdict}
use Rattle.cert_check.specs.VerdictLaws.{OneVerdictLaw}

-- ---- a row of tests

-- at most one verdict
abbrev Unique : (Judged → Type 0) → Type 0
Unique P = (v w : Judged) → P v → P w → v ≡ w

-- what a test finds where it fails, and that it passes
record IsTest (Finds : Judged → Type 0) (Passes : Type 0) : Type 0 where
  once : Unique Finds
  not_both : (v : Judged) → Finds v → Passes → ⊥

-- the verdict of a test and of those after it
data OnTests (Finds : Judged → Type 0) (Passes : Type 0) (After : Judged → Type 0) (v : Judged) : Type 0 where
  fails : Finds v → OnTests Finds Passes After v
  passes : Passes → After v → OnTests Finds Passes After v

one_of_tests : (Finds : Judged → Type 0) (Passes : Type 0) (After : Judged → Type 0) → IsTest Finds Passes → Unique After
    → Unique (OnTests Finds Passes After)
one_of_tests Finds Passes After test after v w (fails f) (fails g) = test.once v w f g
one_of_tests Finds Passes After test after v w (fails f) (passes p a) = absurd (test.not_both v f p)
one_of_tests Finds Passes After test after v w (passes p a) (fails g) = absurd (test.not_both w g p)
one_of_tests Finds Passes After test after v w (passes p a) (passes q b) = after v w a b

-- the end of a row
abbrev IsAccepted : Judged → Type 0
IsAccepted v = v ≡ Accepted

one_accepted : Unique IsAccepted
one_accepted v w a b = a ∙ sym b

-- ---- tests that find a number

-- number k is found, and this is its verdict
abbrev FindsNumber : (ℕ → Judged) → (ℕ → Type 0) → Judged → Type 0
FindsNumber verdict IsFound v = (k : ℕ) × (v ≡ verdict k) × IsFound k

number_test : (verdict : ℕ → Judged) (IsFound : ℕ → Type 0) (Passes : Type 0) → ((j k : ℕ) → IsFound j → IsFound k → j ≡ k)
    → ((k : ℕ) → IsFound k → Passes → ⊥) → IsTest (FindsNumber verdict IsFound) Passes
number_test verdict IsFound Passes one not_both = record {
  once = λ v w f g. f.1 ∙ ap verdict (one f.0 g.0 f.2 g.2) ∙ sym g.1;
  not_both = λ v f passes. not_both f.0 f.2 passes;
}

-- the first of n things that fails
abbrev AllPass : ℕ → (ℕ → Type 0) → Type 0
AllPass n Passes = (k : ℕ) → k < n → Passes k

abbrev OnEach : (ℕ → Judged) → ℕ → (ℕ → Type 0) → (Judged → Type 0) → Judged → Type 0
OnEach verdict n Passes After = OnTests (FindsNumber verdict (IsFirstFailing n Passes)) (AllPass n Passes) After

one_on_each : (verdict : ℕ → Judged) (n : ℕ) (Passes : ℕ → Type 0) (After : Judged → Type 0) → Unique After → Unique (OnEach verdict n Passes After)
one_on_each verdict n Passes After =
    one_of_tests (FindsNumber verdict (IsFirstFailing n Passes)) (AllPass n Passes) After
    (number_test verdict (IsFirstFailing n Passes) (AllPass n Passes) (one_first n Passes) (λ k first all. first.fails (all k first.there)))

-- the first bad step, or no step is bad and the walk isn't closed
fault-failing : (net : Network) (walk : List Step) (k : ℕ) → IsFirstBadStep net walk k → IsFirstFailing (length walk) (λ j. ¬ IsBadStep net walk j) k
fault-failing net walk k first = record { there = first.there; fails = λ good. good first.bad; before = first.before }

one_fault : (net : Network) (walk : List Step) (m n : ℕ) → IsFault net walk m → IsFault net walk n → m ≡ n
one_fault net walk m n (inl f) (inl g) =
    let same = one_first (length walk) (λ j. ¬ IsBadStep net walk j) f.0 g.0 (fault-failing net walk f.0 f.2) (fault-failing net walk g.0 g.2) in
    omega (arith, f.1, g.1)
one_fault net walk m n (inl f) (inr g) = absurd (g.1.before f.0 f.2.there f.2.bad)
one_fault net walk m n (inr f) (inl g) = absurd (f.1.before g.0 g.2.there g.2.bad)
one_fault net walk m n (inr f) (inr g) = f.0 ∙ sym g.0

fault-no_circuit : (net : Network) (walk : List Step) (n : ℕ) → IsFault net walk n → IsCircuit net walk → ⊥
fault-no_circuit net walk n (inl f) round = circuit-no_bad net walk f.0 round f.2.there f.2.bad
fault-no_circuit net walk n (inr f) round = f.1.not_closed (circuit-closed net walk round)

-- ---- tests of the stated numbers

abbrev FindsWrong : ℤ → ℤ → Judged → Type 0
FindsWrong number due v = (stated : ℤ) × (right : ℤ) × (v ≡ WrongNumber stated right) × IsWrong number due stated right

abbrev OnNumber : ℤ → ℤ → (Judged → Type 0) → Judged → Type 0
OnNumber number due After = OnTests (FindsWrong number due) (number ≡ due) After

one_on_number : (number due : ℤ) (After : Judged → Type 0) → Unique After → Unique (OnNumber number due After)
one_on_number number due After = one_of_tests (FindsWrong number due) (number ≡ due) After (record {
  once = λ v w f g.
      f.2 ∙ ap₂ WrongNumber (f.3.stated_is ∙ sym g.3.stated_is) (f.3.right_is ∙ sym g.3.right_is) ∙ sym g.2;
  not_both = λ v f right. f.3.wrong right;
})

abbrev OnSign : ℤ → Judged → Type 0
OnSign number = OnTests (λ v. (v ≡ NotNegative) × (pos 0 ≤ℤ number)) (number <ℤ pos 0) IsAccepted

one_on_sign : (number : ℤ) → Unique (OnSign number)
one_on_sign number = one_of_tests (λ v. (v ≡ NotNegative) × (pos 0 ≤ℤ number)) (number <ℤ pos 0) IsAccepted
    (record {
      once = λ v w f g. f.0 ∙ sym g.0;
      not_both = λ v f negative. (let least = f.1 in absurd (omega (arith, ints)));
    })
    one_accepted

-- ---- the tests of each kind

abbrev not_conserved : ℕ → Judged
not_conserved k = NotConserved (record { 0 = k })

abbrev off_curve : ℕ → Judged
off_curve k = OffCurve (record { 0 = k })

abbrev out_of_capacity : ℕ → Judged
out_of_capacity k = OutOfCapacity (record { 0 = k })

abbrev endless : ℕ → Judged
endless k = Endless (record { 0 = k })

-- flow with potential
abbrev PairTests : Network → List ℤ → List ℤ → ℤ → ℤ → Judged → Type 0
PairTests net x u cost value =
    OnEach not_conserved net.nodes (IsBalanced net x)
    (OnEach off_curve (length net.arcs) (IsPairOfCurve net x u)
    (OnNumber cost (total_cost 1 net («at» x))
    (OnNumber value (total_value 1 net («at» u)) IsAccepted)))

one_of_pair : (net : Network) (x u : List ℤ) (cost value : ℤ) → Unique (PairTests net x u cost value)
one_of_pair net x u cost value =
    one_on_each not_conserved net.nodes (IsBalanced net x) _
    (one_on_each off_curve (length net.arcs) (IsPairOfCurve net x u) _
    (one_on_number cost (total_cost 1 net («at» x)) _
    (one_on_number value (total_value 1 net («at» u)) IsAccepted one_accepted)))

pair_tests : (net : Network) (x u : List ℤ) (cost value : ℤ) (v : Judged) → OnPair net x u cost value v → PairTests net x u cost value v
pair_tests net x u cost value (NotConserved node) on = fails (node.0, refl, on)
pair_tests net x u cost value (OffCurve arc) on = passes on.0 (fails (arc.0, refl, on.1))
pair_tests net x u cost value (WrongNumber stated right) on = passes on.0.conserved (passes on.0.on_curves (elim on.1 [
  | inl wrong ↦ fails (stated, right, refl, wrong)
  | inr wrong ↦ passes wrong.0 (fails (stated, right, refl, wrong.1))
]))
pair_tests net x u cost value Accepted on = passes on.0.conserved (passes on.0.on_curves (passes on.1 (passes on.2 refl)))
pair_tests net x u cost value (OutOfCapacity arc) on = absurd on
pair_tests net x u cost value (NotCircuit number) on = absurd on
pair_tests net x u cost value (Endless arc) on = absurd on
pair_tests net x u cost value NotNegative on = absurd on

-- a set of nodes
abbrev CutTests : Network → List Bool → ℤ → Judged → Type 0
CutTests net side capacity =
    OnEach endless (length net.arcs) (λ j. IsFinite (cut_end net side j))
    (OnNumber capacity (cut_sum net side) (OnSign capacity))

one_of_cut : (net : Network) (side : List Bool) (capacity : ℤ) → Unique (CutTests net side capacity)
one_of_cut net side capacity =
    one_on_each endless (length net.arcs) (λ j. IsFinite (cut_end net side j)) _
    (one_on_number capacity (cut_sum net side) (OnSign capacity) (one_on_sign capacity))

cut_tests : (net : Network) (side : List Bool) (capacity : ℤ) (v : Judged) → OnCut net side capacity v → CutTests net side capacity v
cut_tests net side capacity (Endless arc) on = fails (arc.0, refl, on)
cut_tests net side capacity (WrongNumber stated right) on = passes on.0 (fails (stated, right, refl, on.1))
cut_tests net side capacity NotNegative on = passes on.0 (passes on.1 (fails (refl, on.2)))
cut_tests net side capacity Accepted on = passes on.0.counts (passes on.1 (passes (rw on.1 on.0.negative) refl))
cut_tests net side capacity (NotConserved node) on = absurd on
cut_tests net side capacity (OffCurve arc) on = absurd on
cut_tests net side capacity (OutOfCapacity arc) on = absurd on
cut_tests net side capacity (NotCircuit number) on = absurd on

-- flow with walk: first the span's, then all
abbrev SpanTests : Network → List Step → ℤ → Judged → Type 0
SpanTests net walk span =
    OnEach (λ k. Endless (step walk k).arc) (length walk) (λ k. IsFinite (span_end net (step walk k)))
    (OnNumber span (span_sum net walk) (OnSign span))

abbrev CircuitTests : Network → List ℤ → List Step → ℤ → Judged → Type 0
CircuitTests net x walk span =
    OnEach not_conserved net.nodes (IsBalanced net x)
    (OnEach out_of_capacity (length net.arcs) (IsInCapacity net x)
    (OnTests (FindsNumber NotCircuit (IsFault net walk)) (IsCircuit net walk)
    (SpanTests net walk span)))

one_of_circuit : (net : Network) (x : List ℤ) (walk : List Step) (span : ℤ) → Unique (CircuitTests net x walk span)
one_of_circuit net x walk span =
    one_on_each not_conserved net.nodes (IsBalanced net x) _
    (one_on_each out_of_capacity (length net.arcs) (IsInCapacity net x) _
    (one_of_tests (FindsNumber NotCircuit (IsFault net walk)) (IsCircuit net walk) (SpanTests net walk span)
    (number_test NotCircuit (IsFault net walk) (IsCircuit net walk) (one_fault net walk) (fault-no_circuit net walk))
    (one_on_each (λ k. Endless (step walk k).arc) (length walk) (λ k. IsFinite (span_end net (step walk k))) _
    (one_on_number span (span_sum net walk) (OnSign span) (one_on_sign span)))))

after_walk : (net : Network) (x : List ℤ) (walk : List Step) (span : ℤ) (v : Judged) → IsFeasibleFlow 1 net x → IsCircuit net walk
    → SpanTests net walk span v → CircuitTests net x walk span v
after_walk net x walk span v flow round after = passes flow.conserved (passes flow.in_domains (passes round after))

each_step : (P : Step → Type 0) (walk : List Step) → Each P walk → AllPass (length walk) (λ k. P (step walk k))
each_step P [] each k there = absurd (omega arith)
each_step P (s ∷ walk) each zero there = each.0
each_step P (s ∷ walk) each (suc k) there = each_step P walk each.1 k (omega arith)

finite_ends : (net : Network) (walk : List Step) → SpanCounts net walk → AllPass (length walk) (λ k. IsFinite (span_end net (step walk k)))
finite_ends net walk counts = each_step (λ s. IsFinite (span_end net s)) walk counts

circuit_tests : (net : Network) (x : List ℤ) (walk : List Step) (span : ℤ) (v : Judged) → OnCircuit net x walk span v → CircuitTests net x walk span v
circuit_tests net x walk span (NotConserved node) on = fails (node.0, refl, on)
circuit_tests net x walk span (OutOfCapacity arc) on = passes on.0 (fails (arc.0, refl, on.1))
circuit_tests net x walk span (NotCircuit number) on = passes on.0.conserved (passes on.0.in_domains (fails (number, refl, on.1)))
circuit_tests net x walk span (Endless arc) on =
    after_walk net x walk span (Endless arc) on.0 on.1
    (fails (on.2.0, ap endless on.2.2, on.2.1))
circuit_tests net x walk span (WrongNumber stated right) on =
    after_walk net x walk span (WrongNumber stated right) on.0 on.1 (passes (finite_ends net walk on.2) (fails (stated, right, refl, on.3)))
circuit_tests net x walk span NotNegative on =
    after_walk net x walk span NotNegative on.0 on.1 (passes (finite_ends net walk on.2) (passes on.3 (fails (refl, on.4))))
circuit_tests net x walk span Accepted on =
    after_walk net x walk span Accepted on.0 on.1.circuit
    (passes (finite_ends net walk on.1.counts) (passes on.2 (passes (rw on.2 on.1.negative) refl)))
circuit_tests net x walk span (OffCurve arc) on = absurd on

pub one_verdict : OneVerdictLaw
one_verdict net (optimal x u cost value) v w a b =
    one_of_pair net x u cost value v w (pair_tests net x u cost value v a) (pair_tests net x u cost value w b)
one_verdict net (cut side capacity) v w a b = one_of_cut net side capacity v w (cut_tests net side capacity v a) (cut_tests net side capacity w b)
one_verdict net (circuit x walk span) v w a b =
    one_of_circuit net x walk span v w (circuit_tests net x walk span v a) (circuit_tests net x walk span w b)

-- ---- accepted

accepted-valid : (net : Network) (c : Certificate) → Fits net c → IsVerdict net c Accepted → IsValid net c
accepted-valid net (optimal x u cost value) fits on = record { fits = fits; shows = on.0; right = (on.1, on.2) }
accepted-valid net (cut side capacity) fits on = record { fits = fits; shows = on.0; right = on.1 }
accepted-valid net (circuit x walk span) fits on = record { fits = fits; shows = (on.0, on.1); right = on.2 }

valid-accepted : (net : Network) (c : Certificate) → IsValid net c → IsVerdict net c Accepted
valid-accepted net (optimal x u cost value) valid = (valid.shows, valid.right.0, valid.right.1)
valid-accepted net (cut side capacity) valid = (valid.shows, valid.right)
valid-accepted net (circuit x walk span) valid = (valid.shows.0, valid.shows.1, valid.right)

pub accepted-is_valid : (net : Network) (c : Certificate) (v : Judged) → Fits net c → IsVerdict net c v → (v ≡ Accepted) ↔ IsValid net c
accepted-is_valid net c v fits on = (
  λ accepted. accepted-valid net c fits (subst (λ (w : Judged). IsVerdict net c w) accepted on),
  λ valid. one_verdict net c v Accepted on (valid-accepted net c valid),
)
