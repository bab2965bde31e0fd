-- Numbers below n: if they are more than n, two of them are the same.
use Rattle.std.proofs.Common.{◌≡◌, ◌≢◌, ◌⊎◌, ℕ, zero, suc, ◌<◌, ◌≤◌, inl, inr, subst, ⊎_elim, arith}
use Rattle.std.proofs.lemmas.Bool.{cases_lt, cases_eq}
use Rattle.theory.proofs.Counting.{total_below-ones, total_below-distinct}

pub record IsRepeated (number : ℕ → ℕ) (count : ℕ) : Type 0 where
  pub first : ℕ
  pub second : ℕ
  pub before : first < second
  pub within : second < count
  pub same : number first ≡ number second

pub differ-few : (count n : ℕ) (number : ℕ → ℕ) → ((i k : ℕ) → i < k → k < count → number i ≢ number k)
    → ((k : ℕ) → k < count → number k < n) → count ≤ n
differ-few count n number differ below =
    let all = total_below-distinct count n number (λ k. 1) differ below in
    let ones = total_below-ones count in
    let most = total_below-ones n in
    omega arith

met_or_new : (count x : ℕ) (number : ℕ → ℕ) → ((i : ℕ) × (i < count) × (number i ≡ x)) ⊎ ((i : ℕ) → i < count → number i ≢ x)
met_or_new zero x number = inr (λ i l. absurd (omega arith))
met_or_new (suc count) x number =
    ⊎_elim
    (λ (same : number count ≡ x). inl (count, omega arith, same))
    (λ (other : number count ≡ x → ⊥).
    ⊎_elim
    (λ (met : (i : ℕ) × (i < count) × (number i ≡ x)). inl (met.0, (let l = met.1 in omega arith), met.2))
    (λ (new : (i : ℕ) → i < count → number i ≢ x).
    inr (λ i l.
    ⊎_elim
    (λ (below : i < count). new i below)
    (λ (above : count ≤ i). let e : count ≡ i = omega arith in subst (λ k. number k ≢ x) e other)
    (cases_lt i count)))
    (met_or_new count x number))
    (cases_eq (number count) x)

repeated_or_differ : (count : ℕ) (number : ℕ → ℕ) → IsRepeated number count ⊎ ((i k : ℕ) → i < k → k < count → number i ≢ number k)
repeated_or_differ zero number = inr (λ i k before l. absurd (omega arith))
repeated_or_differ (suc count) number =
    ⊎_elim
    (λ (found : IsRepeated number count).
    inl (record { first = found.first; second = found.second; before = found.before; within = omega (arith, found.within); same = found.same }))
    (λ (differ : (i k : ℕ) → i < k → k < count → number i ≢ number k).
    ⊎_elim
    (λ (met : (i : ℕ) × (i < count) × (number i ≡ number count)).
    inl (record { first = met.0; second = count; before = met.1; within = omega arith; same = met.2 }))
    (λ (new : (i : ℕ) → i < count → number i ≢ number count).
    inr (λ i k before l.
    ⊎_elim
    (λ (below : k < count). differ i k before below)
    (λ (above : count ≤ k). let e : count ≡ k = omega arith in subst (λ k. number i ≢ number k) e (new i (omega arith)))
    (cases_lt k count)))
    (met_or_new count (number count) number))
    (repeated_or_differ count number)

pub repeated : (count n : ℕ) (number : ℕ → ℕ) → ((k : ℕ) → k < count → number k < n) → n < count → IsRepeated number count
repeated count n number below more =
    ⊎_elim
    (λ (found : IsRepeated number count). found)
    (λ (differ : (i k : ℕ) → i < k → k < count → number i ≢ number k).
    let few = differ-few count n number differ below in absurd (omega arith))
    (repeated_or_differ count number)
