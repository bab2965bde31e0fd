-- What a valid certificate says: an optimum over all fractions, or that there is no feasible flow, or a feasible flow,
-- flows of costs below every bound, and no feasible potential. So certificates of two kinds are never valid for one network.
use Rattle.std.specs.Prelude.{◌≡◌, ℤ, List}
use Rattle.theory.specs.Network.{Network, IsNetwork}
use Rattle.theory.specs.Feasible.{IsFeasibleFlow, IsFeasiblePotential}
use Rattle.theory.specs.Best.{IsLeast, IsGreatest, FlowIsRefused, TensionIsRefused}
use Rattle.theory.specs.NetworkLaws.{HasNoBound}
use Rattle.theory.specs.Grounded.{Entries, IsModel, grounded}
use Rattle.theory.specs.Certificate.{Certificate, IsValid}
use Rattle.theory.specs.Certificate.Certificate.{optimal, cut, circuit}

pub record IsOptimum (net : Network) (x u : List ℤ) (cost value : ℤ) : Type 0 where
  pub flow : IsFeasibleFlow 1 net x
  pub potential : IsFeasiblePotential 1 net u
  pub equal : cost ≡ value
  pub least : IsLeast net cost
  pub greatest : IsGreatest net value

pub record IsUnbounded (net : Network) (x : List ℤ) : Type 0 where
  pub flow : IsFeasibleFlow 1 net x
  pub no_bound : HasNoBound net
  pub no_potential : TensionIsRefused net

abbrev pub Says : Network → Certificate → Type 0
Says net (optimal x u cost value) = IsOptimum net x u cost value
Says net (cut side capacity) = FlowIsRefused net
Says net (circuit x walk span) = IsUnbounded net x

abbrev pub CertificateLaw : Type 0
CertificateLaw = (net : Network) (c : Certificate) → IsNetwork net → IsValid net c → Says net c

abbrev pub IsSameKind : Certificate → Certificate → Type 0
IsSameKind (optimal x u cost value) (optimal y w other_cost other_value) = Unit {0}
IsSameKind (cut side capacity) (cut other_side other_capacity) = Unit {0}
IsSameKind (circuit x walk span) (circuit y other_walk other_span) = Unit {0}
IsSameKind c d = ⊥

abbrev pub OneKindLaw : Type 0
OneKindLaw = (net : Network) (c d : Certificate) → IsNetwork net → IsValid net c → IsValid net d → IsSameKind c d

-- the grounded network of a model is a network
abbrev pub GroundedLaw : Type 0
GroundedLaw = (m : Entries) → IsModel m → IsNetwork (grounded m)
