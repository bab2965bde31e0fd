-- Greatest tensions: how far the potential may rise from one node to another. Potentials over every common denominator are compared.
use Rattle.std.specs.Prelude.{◌≡◌, ℕ, ◌≤◌, ◌<◌, ℤ, pos, ◌-ℤ◌, ◌*ℤ◌, ◌≤ℤ◌, ◌<ℤ◌, Bool, true, false, IsTrue, List, length}
use Rattle.theory.specs.declared.ext.Ext.TheVariants.{MinusInf, PlusInf}
use Rattle.theory.specs.declared.network.Step.{Step}
use Rattle.theory.specs.Span.{span_low, span_high}
use Rattle.theory.specs.Network.{Network, «at», tail, head, curve}
use Rattle.theory.specs.Feasible.{IsFeasiblePotential}
use Rattle.theory.specs.Cut.{holds}
use Rattle.theory.specs.Circuit.{SpanCounts, span_sum}
use Rattle.path_cut.specs.Paths.{IsPath}

abbrev pub rise : List ℤ → ℕ → ℕ → ℤ
rise u from to = «at» u to -ℤ «at» u from

-- no feasible potential rises more
abbrev pub IsTensionBound : Network → ℕ → ℕ → ℤ → Type 0
IsTensionBound net from to t = (q : ℕ) (w : List ℤ) → 1 ≤ q → IsFeasiblePotential q net w → rise w from to ≤ℤ (pos q *ℤ t)

pub record IsGreatestTension (net : Network) (from to : ℕ) (t : ℤ) : Type 0 where
  pub reached : (u : List ℤ) × IsFeasiblePotential 1 net u × (rise u from to ≡ t)
  pub most : IsTensionBound net from to t

-- above every number there is a feasible potential
abbrev pub TensionHasNoTop : Network → ℕ → ℕ → Type 0
TensionHasNoTop net from to = (bound : ℤ) → (u : List ℤ) × IsFeasiblePotential 1 net u × (bound <ℤ rise u from to)

-- a path whose span sum counts
pub record IsPathOf (net : Network) (walk : List Step) (from to : ℕ) (t : ℤ) : Type 0 where
  pub path : IsPath net walk from to
  pub counts : SpanCounts net walk
  pub sum : span_sum net walk ≡ t

-- a set of nodes that parts the two, and outside which potentials may grow without end
pub record IsOpenCut (net : Network) (side : List Bool) (from to : ℕ) : Type 0 where
  pub holds_from : IsTrue (holds side from)
  pub lacks_to : holds side to ≡ false
  pub leaving : (j : ℕ) → j < length net.arcs → holds side (tail net j) ≡ true → holds side (head net j) ≡ false
      → span_high (curve net j).items ≡ PlusInf
  pub entering : (j : ℕ) → j < length net.arcs → holds side (tail net j) ≡ false → holds side (head net j) ≡ true
      → span_low (curve net j).items ≡ MinusInf
