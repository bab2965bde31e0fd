-- Least cost, greatest value, refused: claims over the flows and potentials of every denominator.
use Rattle.std.specs.Prelude.{ℕ, ◌≤◌, ℤ, pos, ◌*ℤ◌, ◌≤ℤ◌, List}
use Rattle.theory.specs.Network.{Network, «at»}
use Rattle.theory.specs.Feasible.{IsFeasibleFlow, IsFeasiblePotential}
use Rattle.theory.specs.Totals.{total_cost, total_value}

-- no feasible flow costs less
abbrev pub IsLeast : Network → ℤ → Type 0
IsLeast net c = (q : ℕ) (x : List ℤ) → 1 ≤ q → IsFeasibleFlow q net x → (pos q *ℤ c) ≤ℤ total_cost q net («at» x)

-- no feasible potential has a greater value
abbrev pub IsGreatest : Network → ℤ → Type 0
IsGreatest net d = (q : ℕ) (u : List ℤ) → 1 ≤ q → IsFeasiblePotential q net u → total_value q net («at» u) ≤ℤ (pos q *ℤ d)

-- there is no feasible flow, no feasible potential
abbrev pub FlowIsRefused : Network → Type 0
FlowIsRefused net = (q : ℕ) (x : List ℤ) → 1 ≤ q → IsFeasibleFlow q net x → ⊥

abbrev pub TensionIsRefused : Network → Type 0
TensionIsRefused net = (q : ℕ) (u : List ℤ) → 1 ≤ q → IsFeasiblePotential q net u → ⊥
