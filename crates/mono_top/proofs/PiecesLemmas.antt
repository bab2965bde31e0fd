-- Pieces of a flow in a network with its curves, which no piece looks at, and the flow of a valid certificate.
use Rattle.std.proofs.Common.{◌≡◌, ℕ, zero, suc, ◌<◌, ℤ, List, [], ◌∷◌, length, Some, subst, sym, arith}
use Rattle.theory.specs.declared.network.Step.{Step}
use Rattle.theory.specs.CurveList.{Listing}
use Rattle.theory.specs.Network.{Network, «at»}
use Rattle.theory.specs.Conserved.{IsConserved}
use Rattle.theory.specs.Circuit.{step, IsCircuit}
use Rattle.theory.specs.Grounded.{Entries, grounded}
use Rattle.theory.specs.Certificate.{Certificate, AreNumbers, IsValid}
use Rattle.theory.specs.Certificate.Certificate.{optimal, cut, circuit}
use Rattle.theory.proofs.GroundedLaw.{length-grounded_arcs}
use Rattle.net_incidence.specs.Graph.{Graph, network, bare}
use Rattle.flow_pieces.specs.Pieces.{FlowPiece, piece_at, left_by, ArePieces}
use Rattle.flow_pieces.specs.Unbalanced.{IsFirstUnbalanced}
use Rattle.mono_top.specs.ShowsPieces.{AreThere, flow_of}

-- ---- with curves and without

circuit_with : (graph : Graph) (curves : List Listing) (walk : List Step) → IsCircuit (bare graph) walk → IsCircuit (network graph curves) walk
circuit_with graph curves walk its = record {
  not_empty = its.not_empty;
  joined = its.joined;
  closed = its.closed;
  nodes_differ = its.nodes_differ;
  arcs_differ = its.arcs_differ;
}

pieces_with : (graph : Graph) (curves : List Listing) (rest : ℕ → ℤ) (ps : List FlowPiece)
    → ArePieces (bare graph) rest ps → ArePieces (network graph curves) rest ps
pieces_with graph curves rest [] none = none
pieces_with graph curves rest (p ∷ later) (piece, are) = (
  record {
    there = piece.there;
    circuit = circuit_with graph curves p.walk piece.circuit;
    along = piece.along;
    weighs = piece.weighs;
    first = piece.first;
  },
  pieces_with graph curves (left_by rest p) later are,
)

pub pieces_of_net : (graph : Graph) (net : Network) (x : ℕ → ℤ) (ps : List FlowPiece) → network graph net.curves ≡ net
    → ArePieces (bare graph) x ps → ArePieces net x ps
pieces_of_net graph net x ps same are = subst (λ (n : Network). ArePieces n x ps) same (pieces_with graph net.curves x ps are)

-- a conserved flow is balanced everywhere
pub none_unbalanced : (graph : Graph) (net : Network) (x : ℕ → ℤ) (i : ℕ) → network graph net.curves ≡ net
    → IsConserved net x → IsFirstUnbalanced (bare graph) x i → ⊥
none_unbalanced graph net x i same conserved first =
    let also : IsConserved (network graph net.curves) x = subst (λ (n : Network). IsConserved n x) (sym same) conserved in
    first.fails (also i first.there)

-- ---- the steps

steps_there : (net : Network) (x : ℕ → ℤ) (ps : List FlowPiece) → ArePieces net x ps
    → (k i : ℕ) → k < length ps → i < length (piece_at ps k).walk → (step (piece_at ps k).walk i).arc.0 < length net.arcs
steps_there net x [] are k i here inside = absurd (omega (arith, here))
steps_there net x (p ∷ later) (piece, are) zero i here inside = piece.there i inside
steps_there net x (p ∷ later) (piece, are) (suc k) i here inside =
    steps_there net (left_by x p) later are k i (omega (arith, here)) inside

pub are_there : (m : Entries) (x : ℕ → ℤ) (ps : List FlowPiece) → ArePieces (grounded m) x ps → AreThere m ps
are_there m x ps are k i here inside = omega (arith, steps_there (grounded m) x ps are k i here inside, length-grounded_arcs m)

-- ---- the flow of a valid certificate

pub record IsFlowOf (net : Network) (x : List ℤ) : Type 0 where
  pub numbers : AreNumbers (length net.arcs) x
  pub conserved : IsConserved net («at» x)

pub flow_fits : (net : Network) (c : Certificate) (x : List ℤ) → IsValid net c → flow_of c ≡ Some x → IsFlowOf net x
flow_fits net (optimal y u cost value) x valid is =
    let same : y ≡ x = cc in
    subst (λ (z : List ℤ). IsFlowOf net z) same (record { numbers = valid.fits.0.0; conserved = valid.shows.conserved })
flow_fits net (cut side capacity) x valid is = absurd cc
flow_fits net (circuit y walk span) x valid is =
    let same : y ≡ x = cc in
    subst (λ (z : List ℤ). IsFlowOf net z) same (record { numbers = valid.fits.0.0; conserved = valid.shows.0.conserved })
