-- The flow along a step: that of its arc, in the direction of the step.
use Rattle.std.specs.Prelude.{◌*◌, ◌^◌, ℕ, ◌<◌, ℤ, pos, neg_ℤ, ◌≤ℤ◌, if◌then◌else◌, List, length}
use Rattle.theory.specs.declared.network.Step.{Step}
use Rattle.theory.specs.Network.{«at»}

abbrev pub flow_along : (ℕ → ℤ) → Step → ℤ
flow_along x s = if s.forward then x s.arc.0 else (neg_ℤ (x s.arc.0))

-- numbers whose differences fit 64 bits
abbrev pub most_potential : ℕ
most_potential = 4 * 10 ^ 18

pub record AreSmall (u : List ℤ) : Type 0 where
  pub low : (i : ℕ) → i < length u → neg_ℤ (pos most_potential) ≤ℤ «at» u i
  pub high : (i : ℕ) → i < length u → «at» u i ≤ℤ pos most_potential
