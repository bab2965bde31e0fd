-- The generator that trial models are drawn by: a linear congruential one, modulo 2^64, with its 31 high bits as the draw.
use Rattle.std.specs.Prelude.{ℕ, zero, suc, ◌+◌, ◌*◌, ◌/◌, ◌%◌, ◌^◌}

unfoldable pub advance : ℕ → ℕ
advance state = (state * 6364136223846793005 + 1442695040888963407) % 2 ^ 64

-- the state after that many draws
unfoldable pub state_after : ℕ → ℕ → ℕ
state_after state zero = state
state_after state (suc draws) = advance (state_after state draws)

-- the draw of that number, counted from 1, of the numbers below a bound
unfoldable pub drawn : ℕ → ℕ → ℕ → ℕ
drawn state number bound = state_after state number / 2 ^ 33 % bound
