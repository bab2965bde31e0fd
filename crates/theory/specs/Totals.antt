-- Cost of a flow and value of a potential, over a denominator: sums over all arcs. They are the objectives of
-- Rockafellar's optimal distribution problem and optimal differential problem.
use Rattle.std.specs.Prelude.{ℕ, ℤ, neg_ℤ}
use Rattle.theory.specs.Cost.{cost}
use Rattle.theory.specs.ConjugateCost.{conjugate_cost}
use Rattle.theory.specs.Network.{Network, curve, over_arcs}
use Rattle.theory.specs.Conserved.{tension}

abbrev pub total_cost : ℕ → Network → (ℕ → ℤ) → ℤ
total_cost q net x = over_arcs net (λ j. cost q (curve net j) (x j))

abbrev pub total_value : ℕ → Network → (ℕ → ℤ) → ℤ
total_value q net u = neg_ℤ (over_arcs net (λ j. conjugate_cost q (curve net j) (tension net u j)))
