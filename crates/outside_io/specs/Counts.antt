-- Counts of faults and of misses: numbers that never fall, and stay at the greatest `u64` once they have reached it.
use Rattle.std.specs.Prelude.{ℕ, ◌+◌, ◌-◌, ◌^◌, ◌≤◌, ◌==◌, min, max, Bool, List}
use Rattle.std.specs.List.{list_any}

-- where a count stays
abbrev pub count_end : ℕ
count_end = 2 ^ 64 - 1

-- the count rose: it is greater now, or it stood at its end before
abbrev pub Rose : ℕ → ℕ → Type 0
Rose before now = min (before + 1) count_end ≤ now

-- how a count may move: it never falls, and never passes its end
pub record Counts (before now : ℕ) : Type 0 where
  pub later : before ≤ now
  pub within : now ≤ max before count_end

-- a stored count after one more
abbrev pub raised : ℕ → ℕ
raised n = max n (min (n + 1) count_end)

-- the call of that number is one of those that are to fail
abbrev pub is_listed : List ℕ → ℕ → Bool
is_listed fails call = list_any (λ number. number == call) fails
