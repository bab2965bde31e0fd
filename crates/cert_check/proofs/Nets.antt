-- What a net says of the network that it is with its curves: divergences, tensions and where a walk fails look at no curve.
use Rattle.std.proofs.Common.{◌≡◌, ℕ, ◌*◌, ◌<◌, length, ℤ, pos, List, inl, inr, sym, ap, subst, ◌∙◌, arith}
use Rattle.std.proofs.lemmas.Int.{ints}
use Rattle.theory.specs.declared.network.Step.{Step}
use Rattle.theory.specs.Limits.{IsWithin, flow_most}
use Rattle.theory.specs.CurveList.{Listing}
use Rattle.theory.specs.Network.{Network, IsNetwork, «at», tail, head}
use Rattle.theory.specs.Conserved.{divergence, tension}
use Rattle.theory.specs.Certificate.{AreNumbers}
use Rattle.theory.proofs.Bounds.{within_difference}
use Rattle.net_incidence.specs.Graph.{Graph, network, bare}
use Rattle.net_incidence.specs.BadStep.{IsClosed, IsFault}
use Rattle.cert_check.specs.Verdict.{IsBalanced}

pub balanced_by_divergence : (graph : Graph) (net : Network) (x : List ℤ) (i : ℕ) → network graph net.curves ≡ net
    → divergence (bare graph) («at» x) i ≡ pos 0 → IsBalanced net x i
balanced_by_divergence graph net x i same none =
    let e : divergence net («at» x) i ≡ pos 0 = sym (ap (λ (n : Network). divergence n («at» x) i) same) ∙ none in
    omega (arith, ints)

pub tension_of_net : (graph : Graph) (net : Network) (u : List ℤ) (j : ℕ) → network graph net.curves ≡ net
    → tension (bare graph) («at» u) j ≡ tension net («at» u) j
tension_of_net graph net u j same = ap (λ (n : Network). tension n («at» u) j) same

pub tension-within : (net : Network) (u : List ℤ) (j : ℕ) → IsNetwork net → AreNumbers net.nodes u → j < length net.arcs
    → IsWithin (2 * flow_most) (tension net («at» u) j)
tension-within net u j good numbers there =
    within_difference flow_most flow_most («at» u (head net j)) («at» u (tail net j))
    (numbers.within (head net j) (good.heads j there)) (numbers.within (tail net j) (good.tails j there))

closed_without : (graph : Graph) (curves : List Listing) (walk : List Step) → IsClosed (network graph curves) walk → IsClosed (bare graph) walk
closed_without graph curves walk closed = record { not_empty = closed.not_empty; closed = closed.closed }

fault_with : (graph : Graph) (curves : List Listing) (walk : List Step) (number : ℕ) → IsFault (bare graph) walk number → IsFault (network graph curves) walk number
fault_with graph curves walk number (inl first) = inl (first.0, first.1, record { there = first.2.there; bad = first.2.bad; before = first.2.before })
fault_with graph curves walk number (inr last) =
    inr (last.0, record { not_closed = λ closed. last.1.not_closed (closed_without graph curves walk closed); before = last.1.before })

pub fault_of_net : (graph : Graph) (net : Network) (walk : List Step) (number : ℕ) → network graph net.curves ≡ net
    → IsFault (bare graph) walk number → IsFault net walk number
fault_of_net graph net walk number same fault = subst (λ (n : Network). IsFault n walk number) same (fault_with graph net.curves walk number fault)
