-- What a solve leaves in the room where it worked: by its kind the flows and potentials, the marked nodes, or the flows and the walk. And when each
-- kind comes; the claims are over the flows and potentials of every denominator.
use Rattle.std.specs.Prelude.{◌≡◌, ◌↔◌, ℕ, ℤ, Bool, List, Option, None, Some}
use Rattle.theory.specs.declared.network.Step.{Step}
use Rattle.theory.specs.Network.{Network}
use Rattle.theory.specs.Best.{FlowIsRefused, TensionIsRefused}
use Rattle.theory.specs.Certificate.{BareCertificate, IsValidBare}
use Rattle.theory.specs.Certificate.BareCertificate.{optimal_pair, negative_cut, negative_circuit}
use Rattle.painted_search.specs.Room.{Room}
use Rattle.kilter_solver.specs.declared.kind.Kind.{Kind}
use Rattle.kilter_solver.specs.declared.kind.Kind.TheVariants.{Optimal, Cut, Circuit}

abbrev pub evidence_of : Kind → List ℤ → List ℤ → List Bool → List Step → BareCertificate
evidence_of Optimal flows potentials side walk = optimal_pair flows potentials
evidence_of Cut flows potentials side walk = negative_cut side
evidence_of Circuit flows potentials side walk = negative_circuit flows walk

abbrev pub left_in : Kind → Room → BareCertificate
left_in kind room = evidence_of kind room.flows room.potentials room.reached room.walk

-- what a list of each part holds once a solve of that kind was kept
abbrev pub left_of : Option Kind → List ℤ → List ℤ → List Bool → List Step → Option BareCertificate
left_of None flows potentials side walk = None
left_of (Some kind) flows potentials side walk = Some (evidence_of kind flows potentials side walk)

abbrev pub kind_of_bare : BareCertificate → Kind
kind_of_bare (optimal_pair flows potentials) = Optimal
kind_of_bare (negative_cut side) = Cut
kind_of_bare (negative_circuit flows walk) = Circuit

-- an optimal pair exactly where a flow and a potential are feasible, a cut exactly where no flow is, a circuit exactly where
-- a flow is and no potential
pub record IsKindFor (net : Network) (kind : Kind) : Type 0 where
  pub optimal_is : kind ≡ Optimal ↔ ((¬ FlowIsRefused net) × (¬ TensionIsRefused net))
  pub cut_is : kind ≡ Cut ↔ FlowIsRefused net
  pub circuit_is : kind ≡ Circuit ↔ ((¬ FlowIsRefused net) × TensionIsRefused net)

-- the room of a whole solve: the counts of nodes and arcs that it was taken for, and the evidence that the last solve left, if there was one
pub record Preparation : Type 0 where
  pub nodes : ℕ
  pub arcs : ℕ
  pub left : Option BareCertificate

-- a solve left evidence of its kind, and it is valid
abbrev pub IsLeft : Network → Kind → Option BareCertificate → Type 0
IsLeft net kind left = (b : BareCertificate) × (left ≡ Some b) × (kind_of_bare b ≡ kind) × IsValidBare net b

abbrev pub IsLeftValid : Network → Option BareCertificate → Type 0
IsLeftValid net left = (b : BareCertificate) × (left ≡ Some b) × IsValidBare net b
