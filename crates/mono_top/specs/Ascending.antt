-- The places of a list of arcs in the ascending order of the arcs' numbers.
use Rattle.std.specs.Prelude.{◌≡◌, ◌≢◌, ℕ, ◌<◌, List, length}
use Rattle.tucker_tableau.specs.Tableau.{number}

-- each place once, and the numbers there ascend
pub record AreAscending (arcs places : List ℕ) : Type 0 where
  pub there : (k : ℕ) → k < length places → number places k < length arcs
  pub ascend : (i k : ℕ) → i < k → k < length places → number arcs (number places i) < number arcs (number places k)
  pub every : (i : ℕ) → i < length arcs → (k : ℕ) × (k < length places) × (number places k ≡ i)

-- the places of the numbers below a bound
pub record AreAscendingTo (arcs places : List ℕ) (bound : ℕ) : Type 0 where
  pub there : (k : ℕ) → k < length places → number places k < length arcs
  pub below : (k : ℕ) → k < length places → number arcs (number places k) < bound
  pub ascend : (i k : ℕ) → i < k → k < length places → number arcs (number places i) < number arcs (number places k)
  pub every : (i : ℕ) → i < length arcs → number arcs i < bound → (k : ℕ) × (k < length places) × (number places k ≡ i)

-- no number stands in the list twice, and each is below a bound
pub record AreOnce (arcs : List ℕ) (bound : ℕ) : Type 0 where
  pub below : (k : ℕ) → k < length arcs → number arcs k < bound
  pub differ : (i k : ℕ) → i < k → k < length arcs → number arcs i ≢ number arcs k
