-- Gaps of potentials: between two neighbouring values lies no third one. Closed to at most a limit, the gaps decide the
-- values, since that of node 0 is 0; order and ties stay.
use Rattle.std.specs.Prelude.{◌≡◌, ℕ, ◌+◌, ◌<◌, ℤ, pos, ◌-ℤ◌, ◌+ℤ◌, ◌≤ℤ◌, ◌<ℤ◌, ◌⊎◌, List, length}
use Rattle.std.specs.Int.{int_min}
use Rattle.theory.specs.Network.{«at»}

-- not strictly between the two
abbrev pub IsOutside : ℤ → ℤ → ℤ → Type 0
IsOutside low high z = (z ≤ℤ low) ⊎ (high ≤ℤ z)

-- w are the potentials u of n nodes with no gap above the limit
pub record AreClosed (n : ℕ) (most : ℤ) (u w : ℕ → ℤ) : Type 0 where
  pub ground : w 0 ≡ pos 0
  pub ties : (i k : ℕ) → i < n → k < n → u i ≡ u k → w i ≡ w k
  pub gaps : (i k : ℕ) → i < n → k < n → u i <ℤ u k → ((j : ℕ) → j < n → IsOutside (u i) (u k) (u j))
      → (w k -ℤ w i) ≡ int_min (u k -ℤ u i) most

-- ---- on the way: the values in their order, and a height for each

-- the height of the first value is 0, and each next one is higher by the gap, but at most by the limit
pub record AreHeights (n : ℕ) (most : ℤ) (values heights : List ℤ) : Type 0 where
  pub first : «at» heights 0 ≡ pos 0
  pub next : (p : ℕ) → p + 1 < n → «at» heights (p + 1) ≡ («at» heights p +ℤ int_min («at» values (p + 1) -ℤ «at» values p) most)

-- the height that stands where the value does
pub record HasHeight (values heights : List ℤ) (value height : ℤ) : Type 0 where
  pub place : ℕ
  pub there : place < length values
  pub value_is : «at» values place ≡ value
  pub height_is : «at» heights place ≡ height

-- each new word, with that of the ground, is the height of the old one
pub record ArePlaced (n : ℕ) (values heights : List ℤ) (u w : ℕ → ℤ) : Type 0 where
  pub ground : ℤ
  pub ground_is : HasHeight values heights (u 0) ground
  pub each : (i : ℕ) → i < n → HasHeight values heights (u i) (w i +ℤ ground)
