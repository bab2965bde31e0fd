-- How far a sum of many terms has come, and how far from 0 it can be by then: each term is within the same bound.
use Rattle.std.specs.Prelude.{◌≡◌, ℕ, ◌*◌, ℤ}
use Rattle.theory.specs.Sums.{sum_below}
use Rattle.theory.specs.Limits.{IsWithin}

-- of the first n terms
pub record IsPartialSum (term : ℕ → ℤ) (most n : ℕ) (sum : ℤ) : Type 0 where
  pub is : sum ≡ sum_below n term
  pub within : IsWithin (n * most) sum
