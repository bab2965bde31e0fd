-- An open path leaves no flow greatest. Closed by the last arc it is a circuit; units sent round it keep the flow conserved. Where a step
-- leads to no end of the domain it adds a finite end to the span sum, so the theorem on flow that is sent along such steps keeps the
-- flow in its domains; and the last arc carries as many more.
use Rattle.std.proofs.Common.{◌≡◌, ℕ, zero, suc, ◌+◌, ◌<◌, ℤ, pos, ◌+ℤ◌, ◌-ℤ◌, ◌*ℤ◌, ◌<ℤ◌, true, List, ◌∷◌, length, arith}
use Rattle.std.proofs.lemmas.Int.{ints, clamps}
use Rattle.theory.specs.declared.network.Step.{Step}
use Rattle.theory.specs.Sums.{positive_part}
use Rattle.theory.specs.Ends.{IsFinite}
use Rattle.theory.specs.Network.{Network, IsNetwork, «at», curve}
use Rattle.theory.specs.Conserved.{IsConserved, divergence}
use Rattle.theory.specs.Circuit.{step, IsCircuit, WalkIsThere, span_end, SpanCounts}
use Rattle.theory.specs.Sent.{sent_round}
use Rattle.theory.proofs.SumLaw.{divergence-conserved}
use Rattle.theory.proofs.Refusals.{around}
use Rattle.theory.proofs.Unbounded.{brought, mark_of, is_sent_round}
use Rattle.net_incidence.specs.Incidence.{over}
use Rattle.net_incidence.proofs.SumParts.{each-places}
use Rattle.feasible_flow.proofs.OneArc.{positive_part-is}
use Rattle.feasible_flow.proofs.Sending.{sent-here}
use Rattle.path_cut.specs.GreatestFlow.{return_arc, HasReturn, IsOpenPath}
use Rattle.path_cut.specs.FlowLaws.{OpenPathLaw}
use Rattle.path_cut.proofs.Ends.{open-finite}
use Rattle.path_cut.proofs.Walks.{closed-by}

-- with d the divergence before, e the divergence after and b what the steps bring
pub balanced : (t : ℕ) (d e b : ℤ) → e +ℤ pos t *ℤ b ≡ d → b ≡ pos 0 → d ≡ pos 0 → e ≡ pos 0
balanced t d e b round nothing before = let h = rw nothing at round in omega (arith, ints)

-- a number of units beyond z
beyond : (z : ℤ) → z <ℤ pos (positive_part z + 1)
beyond z = let p = positive_part-is z in omega (arith, ints, clamps)

-- the circuit of the last arc and an open path
round-there : (net : Network) (walk : List Step) → HasReturn net → IsOpenPath net walk → WalkIsThere net (over (return_arc net) true ∷ walk)
round-there net walk returns opens zero l = let some = returns.some in omega arith
round-there net walk returns opens (suc k) l = opens.path.there k (omega arith)

round-finite : (net : Network) (walk : List Step) → IsNetwork net → HasReturn net → IsOpenPath net walk → (k : ℕ)
    → k < length (over (return_arc net) true ∷ walk) → IsFinite (span_end net (step (over (return_arc net) true ∷ walk) k))
round-finite net walk good returns opens zero l =
    open-finite (curve net (return_arc net)).items true (good.curve_lists (return_arc net) (let some = returns.some in omega arith)) returns.no_upper
round-finite net walk good returns opens (suc k) l =
    let s = step walk k in
    open-finite (curve net s.arc.0).items s.forward (good.curve_lists s.arc.0 (opens.path.there k (omega arith))) (opens.endless k (omega arith))

pub open-path : OpenPathLaw
open-path net walk x good returns flow opens bound =
    let m = return_arc net in
    let some = returns.some in
    let all : List Step = over m true ∷ walk in
    let t : ℕ = positive_part (bound -ℤ «at» x m) + 1 in
    let y : List ℤ = sent_round t all x in
    let circuit : IsCircuit net all = closed-by net walk m (good.no_loops m (omega arith)) opens.path opens.others in
    let there : WalkIsThere net all = round-there net walk returns opens in
    let counts : SpanCounts net all = each-places (λ s. IsFinite (span_end net s)) all (round-finite net walk good returns opens) in
    let round = is_sent_round net t all x good flow.one_each there counts flow.in_domains in
    let conserved : IsConserved net («at» y) = λ i l. (
    let still = balanced t (divergence net («at» x) i) (divergence net («at» y) i) (brought net i all)
    (round.divergences i) (around net (mark_of i) all circuit) (divergence-conserved net («at» x) flow.conserved i l) in
    omega (arith, ints)) in
    let more : «at» y m ≡ «at» x m +ℤ pos t =
    sent-here t all x 0 circuit.arcs_differ (omega arith) (let n = flow.one_each in omega arith) in
    let enough = beyond (bound -ℤ «at» x m) in
    (y, record { one_each = round.one_each; conserved = conserved; in_domains = round.in_domains }, omega (arith, ints))
