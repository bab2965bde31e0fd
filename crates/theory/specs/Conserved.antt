-- Divergence of a flow at a node: what leaves it less what enters it. Conserved: the two are equal at every node.
-- Tension of a potential on an arc: the potential at the arc's end less that at its beginning.
use Rattle.std.specs.Prelude.{◌≡◌, ℕ, ◌<◌, ◌==◌, ℤ, ◌-ℤ◌}
use Rattle.theory.specs.Sums.{counted}
use Rattle.theory.specs.Network.{Network, tail, head, over_arcs}

abbrev pub outflow : Network → (ℕ → ℤ) → ℕ → ℤ
outflow net x i = over_arcs net (λ j. counted (tail net j == i) (x j))

abbrev pub inflow : Network → (ℕ → ℤ) → ℕ → ℤ
inflow net x i = over_arcs net (λ j. counted (head net j == i) (x j))

abbrev pub divergence : Network → (ℕ → ℤ) → ℕ → ℤ
divergence net x i = outflow net x i -ℤ inflow net x i

abbrev pub IsConserved : Network → (ℕ → ℤ) → Type 0
IsConserved net x = (i : ℕ) → i < net.nodes → outflow net x i ≡ inflow net x i

abbrev pub tension : Network → (ℕ → ℤ) → ℕ → ℤ
tension net u j = u (head net j) -ℤ u (tail net j)
