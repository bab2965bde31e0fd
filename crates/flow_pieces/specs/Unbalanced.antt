-- Where a flow is not conserved: at this node what leaves is not what enters.
use Rattle.std.specs.Prelude.{◌≡◌, ℕ, ℤ}
use Rattle.theory.specs.First.{IsFirstFailing}
use Rattle.theory.specs.Network.{Network}
use Rattle.theory.specs.Conserved.{outflow, inflow}

abbrev pub IsBalanced : Network → (ℕ → ℤ) → ℕ → Type 0
IsBalanced net x i = outflow net x i ≡ inflow net x i

-- the first such node
abbrev pub IsFirstUnbalanced : Network → (ℕ → ℤ) → ℕ → Type 0
IsFirstUnbalanced net x i = IsFirstFailing net.nodes (IsBalanced net x) i
