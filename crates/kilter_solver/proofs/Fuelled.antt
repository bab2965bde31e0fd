-- Readings of a solve that begins with a draw. A unit of the bound is `L + 1` times `m (m + 1) (n + 3)`, and the fuel of a draw at most 100 times
-- that. With 30 levels the bound has 496 of them: 100 for the draw, 186 for six units of the passes; a test of what was drawn and a
-- round over nodes and arcs take less than one each.
use Rattle.std.proofs.Common.{◌≡◌, ℕ, zero, suc, ◌+◌, ◌*◌, ◌≤◌, arith}
use Rattle.theory.specs.Limits.{level_most}
use Rattle.theory.specs.ReadingBound.{reading_unit, reading_bound}
use Rattle.quick_start.specs.Spent.{fuel_share}

pub room_left : (n m : ℕ) → fuel_share n m + m + (6 * reading_unit n m level_most + n * m) ≤ reading_bound n m level_most
room_left n zero = omega arith
room_left n (suc m) = omega arith

-- a net of k nodes and l arcs that are n and m, a draw, then perhaps a test, and then what is left to do
pub fuelled : (n m k l given start drawn tested ended : ℕ) → k ≡ n → l ≡ m → given ≤ fuel_share k l → drawn ≤ start + given → tested ≤ drawn + l
    → ended ≤ tested + (6 * reading_unit n m level_most + n * m) → ended ≤ start + reading_bound n m level_most
fuelled n m k l given start drawn tested ended nodes arcs is draws tests ends =
    let left = room_left n m in
    let here : given ≤ fuel_share n m = rw (← nodes, ← arcs) is in
    omega (arith, left, here)
