-- Sums over the nodes of a set.
use Rattle.std.specs.Prelude.{ℕ, Bool, List, if◌then◌else◌}
use Rattle.theory.specs.Cut.{holds}
use Rattle.theory.specs.Sums.{total_below}

abbrev pub marked : (ℕ → ℕ) → List Bool → ℕ → ℕ
marked f side i = if holds side i then f i else 0

abbrev pub marked_total : ℕ → (ℕ → ℕ) → List Bool → ℕ
marked_total n f side = total_below n (marked f side)

abbrev pub count_of : ℕ → List Bool → ℕ
count_of n side = marked_total n (λ i. 1) side
