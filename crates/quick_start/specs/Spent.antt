-- What readings cost: fuel, one for each, and fuel may be spent on other work too.
use Rattle.std.specs.Prelude.{ℕ, ◌+◌, ◌*◌, ◌≤◌}

pub record IsSpent (fuel steps fuel_left steps_then : ℕ) : Type 0 where
  pub no_fewer : steps ≤ steps_then
  pub within : steps_then + fuel_left ≤ steps + fuel

-- the most that a draw is worth, by the counts of nodes and arcs: less than five products of the arcs, 21, the arcs and one
-- more, and the nodes and three more
abbrev pub fuel_share : ℕ → ℕ → ℕ
fuel_share n m = 100 * m * (m + 1) * (n + 3)
