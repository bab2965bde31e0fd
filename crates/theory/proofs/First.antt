-- There is one first.
use Rattle.std.proofs.Common.{◌≡◌, ℕ, ◌<◌, ⊎_elim}
use Rattle.std.proofs.lemmas.Bool.{cases_order}
use Rattle.theory.specs.First.{IsFirstFailing}

pub one_first : (n : ℕ) (Passes : ℕ → Type 0) (j k : ℕ) → IsFirstFailing n Passes j → IsFirstFailing n Passes k → j ≡ k
one_first n Passes j k first also =
    ⊎_elim (λ (same : j ≡ k). same)
    (⊎_elim (λ (below : j < k). absurd (first.fails (also.before j below)))
    (λ (above : k < j). absurd (also.fails (first.before k above))))
    (cases_order j k)
