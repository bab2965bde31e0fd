-- Reading bound: how often a solve may read curves, by the counts of nodes and arcs of the grounded network and the
-- number of levels. No breakpoint, slope or flow is in it. docs/DEFINITIONS.md tells where it comes from.
use Rattle.std.specs.Prelude.{ℕ, ◌+◌, ◌*◌}
use Rattle.theory.specs.Limits.{number_most}

abbrev pub reading_unit : ℕ → ℕ → ℕ → ℕ
reading_unit n m levels = m * (levels + 1) * (m + 1) * (n + 3)

abbrev pub reading_bound : ℕ → ℕ → ℕ → ℕ
reading_bound n m levels = 16 * reading_unit n m levels

-- without levels the violations of all arcs are in it, each at most twice the greatest number
abbrev pub unscaled_unit : ℕ → ℕ → ℕ
unscaled_unit n m = m * (2 * number_most * m + 1 + 1) * (n + 3)

abbrev pub unscaled_bound : ℕ → ℕ → ℕ
unscaled_bound n m = 16 * unscaled_unit n m
