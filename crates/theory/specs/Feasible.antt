-- Feasible: conserved with every flow in its domain, and 0 at the ground with every tension in its span. Both over
-- a common denominator q.
use Rattle.std.specs.Prelude.{◌≡◌, ℕ, ◌<◌, ℤ, pos, List, length}
use Rattle.theory.specs.Domain.{InDomain}
use Rattle.theory.specs.Span.{InSpan}
use Rattle.theory.specs.Network.{Network, «at», curve}
use Rattle.theory.specs.Conserved.{IsConserved, tension}

pub record IsFeasibleFlow (q : ℕ) (net : Network) (x : List ℤ) : Type 0 where
  pub one_each : length x ≡ length net.arcs
  pub conserved : IsConserved net («at» x)
  pub in_domains : (j : ℕ) → j < length net.arcs → InDomain q (curve net j).items («at» x j)

pub record IsFeasiblePotential (q : ℕ) (net : Network) (u : List ℤ) : Type 0 where
  pub one_each : length u ≡ net.nodes
  pub ground : «at» u 0 ≡ pos 0
  pub in_spans : (j : ℕ) → j < length net.arcs → InSpan q (curve net j).items (tension net («at» u) j)
