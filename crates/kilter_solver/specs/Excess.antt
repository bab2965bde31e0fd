-- Excess of a node: what the flow brings to it less what it takes away. A node with an excess above 0 has a surplus, one with an
-- excess below 0 lacks something. The passes keep it in the first scratch word of each node of the room.
use Rattle.std.specs.Prelude.{◌≡◌, ℕ, ◌<◌, ℤ, neg_ℤ}
use Rattle.theory.specs.Sums.{positive_part, total_below}
use Rattle.theory.specs.Network.{Network, «at»}
use Rattle.theory.specs.Conserved.{divergence}
use Rattle.painted_search.specs.Room.{Room}

abbrev pub excess : Room → ℕ → ℤ
excess w i = «at» w.scratch i

pub record AreExcesses (net : Network) (x e : ℕ → ℤ) : Type 0 where
  pub exact : (i : ℕ) → i < net.nodes → e i ≡ neg_ℤ (divergence net x i)

-- what is too much at the first n nodes together
abbrev pub surpluses : ℕ → (ℕ → ℤ) → ℕ
surpluses n e = total_below n (λ i. positive_part (e i))
