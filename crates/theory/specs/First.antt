-- The first of n things that fails a test: it fails, and all before it pass.
use Rattle.std.specs.Prelude.{ℕ, ◌<◌}

pub record IsFirstFailing (n : ℕ) (Passes : ℕ → Type 0) (k : ℕ) : Type 0 where
  pub there : k < n
  pub fails : ¬ Passes k
  pub before : (j : ℕ) → j < k → Passes j
