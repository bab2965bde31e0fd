-- A scan in the order of numbers: a further number passes.
use Rattle.std.proofs.Common.{◌≡◌, ℕ, ◌+◌, ◌<◌, subst, arith, inl, inr}
use Rattle.std.proofs.lemmas.Bool.{cases_lt}

pub passes-further : (Passes : ℕ → Type 0) (n : ℕ) → ((k : ℕ) → k < n → Passes k) → Passes n → (k : ℕ) → k < n + 1 → Passes k
passes-further Passes n so_far here k l = elim (cases_lt k n) [
  | inl before ↦ so_far k before
  | inr after ↦ let same : n ≡ k = omega arith in subst Passes same here
]
