-- A step that lacks flow and a free path from its end back to its beginning are a circuit. No node is begun from twice:
-- the path begins at the step's end, and each later step of it begins where another one than the last one ends, so not at
-- the step's beginning. No arc stands twice: a step of the path over the same arc in the same direction would begin at the
-- step's beginning, and the other direction is not free, since the flow lacks some that way.
use Rattle.std.proofs.Common.{◌≡◌, ◌≢◌, ℕ, zero, suc, ◌+◌, ◌-◌, ◌<◌, ◌≤◌, ℤ, Bool, true, false, not, List, ◌∷◌, length, refl, sym, ◌∙◌, arith}
use Rattle.theory.specs.declared.ext.Ext.{Ext}
use Rattle.theory.specs.declared.colour.Colour.{Colour}
use Rattle.theory.specs.declared.network.Step.{Step}
use Rattle.theory.specs.Network.{Network, «at», list_at}
use Rattle.theory.specs.Circuit.{step, begin_of, end_of, IsCircuit}
use Rattle.net_incidence.specs.Graph.{Graph, bare}
use Rattle.painted_search.specs.Path.{IsFreePath}
use Rattle.feasible_flow.specs.Painting.{painting}
use Rattle.feasible_flow.specs.Violations.{needed}
use Rattle.feasible_flow.proofs.OneArc.{need-not_free}

-- the ends of a step are different nodes
pub ends-apart : (g : Graph) (s : Step) → s.arc.0 < length g.arcs → end_of (bare g) s ≢ begin_of (bare g) s
ends-apart g s there same = by_direction s.forward same
  where
    by_direction : (forward : Bool) → end_of (bare g) (record s { forward = forward }) ≢ begin_of (bare g) (record s { forward = forward })
    by_direction true e = g.good.no_loops s.arc.0 there (sym e)
    by_direction false e = g.good.no_loops s.arc.0 there e

same-begin : (net : Network) (s w : Step) → w.arc.0 ≡ s.arc.0 → w.forward ≡ s.forward → begin_of net w ≡ begin_of net s
same-begin net s w arc forward = rw (arc, forward) refl

turned : (a b : Bool) → (a ≡ b → ⊥) → a ≡ not b
turned true true apart = absurd (apart refl)
turned true false apart = refl
turned false true apart = refl
turned false false apart = absurd (apart refl)

-- a step of the path begins elsewhere than where the path ends
begins-elsewhere : (net : Network) (colours : ℕ → Colour) (walk : List Step) (from to k : ℕ) → from ≢ to → IsFreePath net colours walk from to
    → k < length walk → to ≢ begin_of net (step walk k)
begins-elsewhere net colours walk from to zero apart path l same = apart (sym path.begins ∙ sym same)
begins-elsewhere net colours walk from to (suc k) apart path l same =
    let e : suc k ≡ k + 1 = omega arith in
    let meet : end_of net (step walk k) ≡ begin_of net (step walk (suc k)) = rw e (path.joined k (omega arith)) in
    let last : ℕ = length walk - 1 in
    let ends : end_of net (step walk last) ≡ to = path.ends last (omega arith) in
    path.ends_differ k last (omega arith) (omega arith) (meet ∙ sym same ∙ sym ends)

-- and passes another arc than the step that lacks flow
passes-elsewhere : (g : Graph) (lists : List (List Ext)) (x : List ℤ) (walk : List Step) (s : Step) (k : ℕ) → s.arc.0 < length g.arcs
    → 1 ≤ needed (list_at lists s.arc.0) («at» x s.arc.0) s.forward
    → IsFreePath (bare g) (painting lists x) walk (end_of (bare g) s) (begin_of (bare g) s)
    → k < length walk → s.arc.0 ≢ (step walk k).arc.0
passes-elsewhere g lists x walk s k there some path l same =
    let w = step walk k in
    let elsewhere = begins-elsewhere (bare g) (painting lists x) walk (end_of (bare g) s) (begin_of (bare g) s) k (ends-apart g s there) path l in
    let other : w.forward ≡ not s.forward =
    turned w.forward s.forward (λ forward. elsewhere (sym (same-begin (bare g) s w (sym same) forward))) in
    need-not_free (list_at lists s.arc.0) («at» x s.arc.0) s.forward w.forward some other (rw same (path.free k l))

-- a path from the end of a step back to its beginning, over other arcs, closes a circuit
pub closes-path : (net : Network) (colours : ℕ → Colour) (walk : List Step) (s : Step) → end_of net s ≢ begin_of net s
    → ((k : ℕ) → k < length walk → s.arc.0 ≢ (step walk k).arc.0) → IsFreePath net colours walk (end_of net s) (begin_of net s)
    → IsCircuit net (s ∷ walk)
closes-path net colours walk s apart elsewhere path =
    record { not_empty = omega arith; joined = joined; closed = closed; nodes_differ = nodes_differ; arcs_differ = arcs_differ }
  where
    joined : (k : ℕ) → k + 1 < length (s ∷ walk) → end_of net (step (s ∷ walk) k) ≡ begin_of net (step (s ∷ walk) (k + 1))
    joined zero l = sym path.begins
    joined (suc k) l = let e : suc k + 1 ≡ suc (k + 1) = omega arith in rw e (path.joined k (omega arith))

    closed : (k : ℕ) → k + 1 ≡ length (s ∷ walk) → end_of net (step (s ∷ walk) k) ≡ begin_of net s
    closed zero l = absurd (omega (arith, path.not_empty))
    closed (suc k) l = path.ends k (omega arith)

    nodes_differ : (i k : ℕ) → i < k → k < length (s ∷ walk) → begin_of net (step (s ∷ walk) i) ≢ begin_of net (step (s ∷ walk) k)
    nodes_differ i zero l h = absurd (omega arith)
    nodes_differ zero (suc k) l h = begins-elsewhere net colours walk (end_of net s) (begin_of net s) k apart path (omega arith)
    nodes_differ (suc i) (suc k) l h = path.begins_differ i k (omega arith) (omega arith)

    arcs_differ : (i k : ℕ) → i < k → k < length (s ∷ walk) → (step (s ∷ walk) i).arc.0 ≢ (step (s ∷ walk) k).arc.0
    arcs_differ i zero l h = absurd (omega arith)
    arcs_differ zero (suc k) l h = elsewhere k (omega arith)
    arcs_differ (suc i) (suc k) l h = path.arcs_differ i k (omega arith) (omega arith)

pub closes : (g : Graph) (lists : List (List Ext)) (x : List ℤ) (walk : List Step) (s : Step) → s.arc.0 < length g.arcs
    → 1 ≤ needed (list_at lists s.arc.0) («at» x s.arc.0) s.forward
    → IsFreePath (bare g) (painting lists x) walk (end_of (bare g) s) (begin_of (bare g) s)
    → IsCircuit (bare g) (s ∷ walk)
closes g lists x walk s there some path =
    closes-path (bare g) (painting lists x) walk s (ends-apart g s there) (λ k l. passes-elsewhere g lists x walk s k there some path l) path
