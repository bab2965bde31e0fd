-- What the passes find for the items of the curves holds for the curves with their bases.
use Rattle.std.proofs.Common.{◌≡◌, ℤ, List, Bool, map, subst}
use Rattle.std.specs.Prelude.{Option}
use Rattle.theory.specs.declared.network.Step.{Step}
use Rattle.theory.specs.CurveList.{Listing}
use Rattle.theory.specs.Network.{Network}
use Rattle.theory.specs.Feasible.{IsFeasibleFlow, IsFeasiblePotential}
use Rattle.theory.specs.Cut.{IsNegativeCut}
use Rattle.theory.specs.Circuit.{IsNegativeCircuit}
use Rattle.theory.specs.Certificate.{IsOptimalPair, BareCertificate, IsValidBare}
use Rattle.theory.specs.Certificate.BareCertificate.{optimal_pair, negative_cut, negative_circuit}
use Rattle.mono_curve.specs.CurveValue.{CurveValue}
use Rattle.net_incidence.specs.Graph.{Graph, network}
use Rattle.ground_net.specs.Ground.{listings}
use Rattle.ground_net.proofs.Items.{items_of, items-same}
use Rattle.net_incidence.specs.WithoutBases.{without_bases, without_base}
use Rattle.kilter_solver.specs.Left.{IsLeft, IsLeftValid}
use Rattle.kilter_solver.specs.declared.kind.Kind.{Kind}
use Rattle.net_incidence.proofs.WithoutBases.{flow-same, potential-same, pair-same, cut-same, circuit-same}

module _ (g : Graph) (curves : List CurveValue) (net : Network) (is : network g (listings curves) ≡ net) where
  abbrev bare_lists : List Listing
  bare_lists = map without_base (items_of curves)

  pub flow-of : (x : List ℤ) → IsFeasibleFlow 1 (without_bases g (items_of curves)) x → IsFeasibleFlow 1 net x
  flow-of x flow = subst (λ (n : Network). IsFeasibleFlow 1 n x) is (flow-same g bare_lists (listings curves) (items-same curves) 1 x flow)

  pub potential-of : (u : List ℤ) → IsFeasiblePotential 1 (without_bases g (items_of curves)) u → IsFeasiblePotential 1 net u
  potential-of u potential =
      subst (λ (n : Network). IsFeasiblePotential 1 n u) is (potential-same g bare_lists (listings curves) (items-same curves) 1 u potential)

  pub pair-of : (x u : List ℤ) → IsOptimalPair (without_bases g (items_of curves)) x u → IsOptimalPair net x u
  pair-of x u pair = subst (λ (n : Network). IsOptimalPair n x u) is (pair-same g bare_lists (listings curves) (items-same curves) x u pair)

  pub cut-of : (side : List Bool) → IsNegativeCut (without_bases g (items_of curves)) side → IsNegativeCut net side
  cut-of side cut = subst (λ (n : Network). IsNegativeCut n side) is (cut-same g bare_lists (listings curves) (items-same curves) side cut)

  pub circuit-of : (walk : List Step) → IsNegativeCircuit (without_bases g (items_of curves)) walk → IsNegativeCircuit net walk
  circuit-of walk circuit =
      subst (λ (n : Network). IsNegativeCircuit n walk) is (circuit-same g bare_lists (listings curves) (items-same curves) walk circuit)

  pub bare-of : (b : BareCertificate) → IsValidBare (without_bases g (items_of curves)) b → IsValidBare net b
  bare-of (optimal_pair x u) valid =
      subst (λ (n : Network). IsValidBare n (optimal_pair x u)) is
      record {
        fits = (valid.fits.0, record { numbers = valid.fits.1.numbers; ground = valid.fits.1.ground });
        shows = pair-same g bare_lists (listings curves) (items-same curves) x u valid.shows;
      }
  bare-of (negative_cut side) valid =
      subst (λ (n : Network). IsValidBare n (negative_cut side)) is
      record { fits = valid.fits; shows = cut-same g bare_lists (listings curves) (items-same curves) side valid.shows }
  bare-of (negative_circuit x walk) valid =
      subst (λ (n : Network). IsValidBare n (negative_circuit x walk)) is
      record {
        fits = (valid.fits.0, record { there = valid.fits.1.there; short = valid.fits.1.short });
        shows = (
          flow-same g bare_lists (listings curves) (items-same curves) 1 x valid.shows.0,
          circuit-same g bare_lists (listings curves) (items-same curves) walk valid.shows.1,
        );
      }

  pub left-of : (left : Option BareCertificate) (kind : Kind) → IsLeft (without_bases g (items_of curves)) kind left → IsLeftValid net left
  left-of left kind (b, is_b, of_kind, valid) = (b, is_b, bare-of b valid)
