-- What so much round a circuit adds to an arc: the weight, in the direction of the step, where one of its steps goes over the
-- arc, since then no other does; and nothing elsewhere.
use Rattle.std.proofs.Common.{◌≡◌, ◌≢◌, ◌⊎◌, ℕ, zero, suc, ◌+◌, ◌<◌, ◌==◌, ℤ, pos, ◌+ℤ◌, ◌-ℤ◌, List, [], ◌∷◌, ◌++◌, take, drop, length, set, refl, sym, ap, ◌∙◌, inl, inr, ⊎_elim, eq-eqb, arith}
use Rattle.std.proofs.lemmas.Int.{ints}
use Rattle.std.proofs.lemmas.Bool.{cases_eq, ne_eqb}
use Rattle.std.proofs.lemmas.List.{take-append-drop, take_more, get_or-take, get_or-set_same, get_or-set_other, length-take-le}
use Rattle.theory.specs.declared.network.Step.{Step}
use Rattle.theory.specs.Sums.{counted}
use Rattle.theory.specs.Network.{«at»}
use Rattle.theory.specs.Circuit.{step}
use Rattle.net_incidence.proofs.Divergence.{sum_over-append}
use Rattle.flow_pieces.specs.Pieces.{directed, carried}

-- no two steps go over one arc
abbrev pub ArcsDiffer : List Step → Type 0
ArcsDiffer walk = (i k : ℕ) → i < k → k < length walk → (step walk i).arc.0 ≢ (step walk k).arc.0

-- no step goes over arc j
abbrev pub GoesOff : List Step → ℕ → Type 0
GoesOff walk j = (k : ℕ) → k < length walk → (step walk k).arc.0 ≢ j

-- step k goes over it
pub record GoesOver (walk : List Step) (j : ℕ) : Type 0 where
  pub place : ℕ
  pub there : place < length walk
  pub is : (step walk place).arc.0 ≡ j

goes_off-more : (s : Step) (walk : List Step) (j : ℕ) → s.arc.0 ≢ j → GoesOff walk j → GoesOff (s ∷ walk) j
goes_off-more s walk j here later zero l = here
goes_off-more s walk j here later (suc k) l = later k (omega arith)

pub over_or_off : (walk : List Step) (j : ℕ) → GoesOver walk j ⊎ GoesOff walk j
over_or_off [] j = inr (λ k l. absurd (omega arith))
over_or_off (s ∷ walk) j =
    ⊎_elim
    (λ (here : s.arc.0 ≡ j). inl (record { place = 0; there = omega arith; is = here }))
    (λ (elsewhere : s.arc.0 ≢ j).
    ⊎_elim
    (λ (found : GoesOver walk j). inl (record { place = suc found.place; there = (let l = found.there in omega arith); is = found.is }))
    (λ (none : GoesOff walk j). inr (goes_off-more s walk j elsewhere none))
    (over_or_off walk j))
    (cases_eq s.arc.0 j)

-- ---- on one arc

counted-miss : (i k : ℕ) (x : ℤ) → i ≢ k → counted (i == k) x ≡ pos 0
counted-miss i k x ne = rw (ne_eqb i k ne)

counted-hit : (i k : ℕ) (x : ℤ) → i ≡ k → counted (i == k) x ≡ x
counted-hit i k x e = rw (eq-eqb i k e)

pub carried-off : (weight : ℤ) (walk : List Step) (j : ℕ) → GoesOff walk j → carried weight walk j ≡ pos 0
carried-off weight [] j off = refl
carried-off weight (s ∷ walk) j off =
    let here : counted (s.arc.0 == j) (directed weight s.forward) ≡ pos 0 =
    counted-miss s.arc.0 j (directed weight s.forward) (off 0 (omega arith)) in
    let later : carried weight walk j ≡ pos 0 = carried-off weight walk j (λ k l. off (suc k) (omega arith)) in
    omega (arith, ints)

pub carried-over : (weight : ℤ) (walk : List Step) (k : ℕ) → ArcsDiffer walk → k < length walk
    → carried weight walk (step walk k).arc.0 ≡ directed weight (step walk k).forward
carried-over weight [] k differ there = absurd (omega arith)
carried-over weight (s ∷ walk) zero differ there =
    let here : counted (s.arc.0 == s.arc.0) (directed weight s.forward) ≡ directed weight s.forward =
    counted-hit s.arc.0 s.arc.0 (directed weight s.forward) refl in
    let later : carried weight walk s.arc.0 ≡ pos 0 =
    carried-off weight walk s.arc.0 (λ i l e. differ 0 (suc i) (omega arith) (omega arith) (sym e)) in
    omega (arith, ints)
carried-over weight (s ∷ walk) (suc k) differ there =
    let here : counted (s.arc.0 == (step walk k).arc.0) (directed weight s.forward) ≡ pos 0 =
    counted-miss s.arc.0 (step walk k).arc.0 (directed weight s.forward) (differ 0 (suc k) (omega arith) (omega arith)) in
    let later : carried weight walk (step walk k).arc.0 ≡ directed weight (step walk k).forward =
    carried-over weight walk k (λ i n before l. differ (suc i) (suc n) (omega arith) (omega arith)) (omega arith) in
    omega (arith, ints)

-- ---- walks in parts

abbrev share : ℤ → ℕ → Step → ℤ
share weight j s = counted (s.arc.0 == j) (directed weight s.forward)

pub carried-turned : (weight : ℤ) (walk : List Step) (turn j : ℕ)
    → carried weight (drop turn walk ++ take turn walk) j ≡ carried weight walk j
carried-turned weight walk turn j =
    let turned = sum_over-append (share weight j) (drop turn walk) (take turn walk) in
    let whole = sum_over-append (share weight j) (take turn walk) (drop turn walk) in
    let same : carried weight (take turn walk ++ drop turn walk) j ≡ carried weight walk j =
    ap (λ w. carried weight w j) (take-append-drop turn walk) in
    omega (arith, ints)

carried-more : (weight : ℤ) (walk : List Step) (k j : ℕ) → k < length walk
    → carried weight (take (k + 1) walk) j ≡ carried weight (take k walk) j +ℤ share weight j (step walk k)
carried-more weight walk k j there =
    let longer : take (k + 1) walk ≡ take k walk ++ step walk k ∷ [] = take_more walk k _ there in
    let more : carried weight (take (k + 1) walk) j ≡ carried weight (take k walk ++ step walk k ∷ []) j =
    ap (λ w. carried weight w j) longer in
    let apart = sum_over-append (share weight j) (take k walk) (step walk k ∷ []) in
    omega (arith, ints)

-- ---- taken off step by step

-- an arc is as it was until its step comes
untouched : (weight : ℤ) (walk : List Step) (k : ℕ) → ArcsDiffer walk → k < length walk
    → carried weight (take k walk) (step walk k).arc.0 ≡ pos 0
untouched weight walk k differ there =
    let short : length (take k walk) ≡ k = length-take-le k walk (omega arith) in
    carried-off weight (take k walk) (step walk k).arc.0
    (λ i l e. let before : i < k = omega arith in differ i k before there (ap (λ (s : Step). s.arc.0) (sym (get_or-take k walk i _ before)) ∙ e))

pub untouched-now : (weight : ℤ) (walk : List Step) (k : ℕ) (rest now : List ℤ) → ArcsDiffer walk → k < length walk
    → ((j : ℕ) → «at» now j ≡ «at» rest j -ℤ carried weight (take k walk) j)
    → «at» now (step walk k).arc.0 ≡ «at» rest (step walk k).arc.0
untouched-now weight walk k rest now differ there so_far =
    let none = untouched weight walk k differ there in
    let is = so_far (step walk k).arc.0 in
    omega (arith, ints)

pub taken-more : (weight : ℤ) (walk : List Step) (k : ℕ) (rest now : List ℤ) (z : ℤ) → k < length walk
    → (step walk k).arc.0 < length now
    → ((j : ℕ) → «at» now j ≡ «at» rest j -ℤ carried weight (take k walk) j)
    → z ≡ «at» now (step walk k).arc.0 -ℤ directed weight (step walk k).forward
    → (j : ℕ) → «at» (set now (step walk k).arc.0 z) j ≡ «at» rest j -ℤ carried weight (take (k + 1) walk) j
taken-more weight walk k rest now z there arc_there so_far less j =
    let a = (step walk k).arc.0 in
    let d = directed weight (step walk k).forward in
    let before = so_far j in
    let more = carried-more weight walk k j there in
    ⊎_elim
    (λ (hit : j ≡ a).
    let written : «at» (set now a z) j ≡ z = rw hit (get_or-set_same now a z (pos 0) arc_there) in
    let here : share weight j (step walk k) ≡ d = counted-hit a j d (sym hit) in
    let was : «at» now a ≡ «at» now j = ap («at» now) (sym hit) in
    omega (arith, ints))
    (λ (apart : j ≢ a).
    let kept : «at» (set now a z) j ≡ «at» now j = get_or-set_other now a j z (pos 0) apart in
    let none : share weight j (step walk k) ≡ pos 0 = counted-miss a j d (λ e. apart (sym e)) in
    omega (arith, ints))
    (cases_eq j a)
