-- The divergence is the sum of the flows along the steps that begin at the node. Over one arc the steps at a node carry its
-- flow if the arc leaves the node, its opposite if it enters it: never both, since no arc joins a node with itself. The
-- incident steps are those of arc 0, then those of arc 1, and so on, so the sum over them is a sum over the arcs.
use Rattle.std.proofs.Common.{◌≡◌, ◌≢◌, ℕ, zero, suc, ◌==◌, ℤ, ◌+ℤ◌, ◌-ℤ◌, List, [], ◌∷◌, ◌++◌, length, refl, sym, ap, ◌∙◌, ⊎_elim, eq-eqb, arith}
use Rattle.std.proofs.lemmas.Int.{ints}
use Rattle.std.proofs.lemmas.Bool.{cases_eq, ne_eqb}
use Rattle.theory.specs.declared.network.Step.{Step}
use Rattle.theory.specs.Sums.{sum_over, sum_below, counted}
use Rattle.theory.specs.Network.{Network, arc_at, tail, head}
use Rattle.theory.specs.Conserved.{divergence}
use Rattle.theory.specs.Circuit.{step}
use Rattle.theory.proofs.SumsBelow.{sum_below-front, sum_below-same, sum_below-sub}
use Rattle.net_incidence.specs.Graph.{AreArcs}
use Rattle.net_incidence.specs.Incidence.{step_at, joined_below, incident_steps}
use Rattle.net_incidence.specs.FlowAlong.{flow_along}
use Rattle.net_incidence.proofs.Incident.{step_at-tail, step_at-head, step_at-none}

pub sum_over-append : {A : Type 0} (f : A → ℤ) (xs ys : List A) → sum_over f (xs ++ ys) ≡ sum_over f xs +ℤ sum_over f ys
sum_over-append f [] ys = omega (arith, ints)
sum_over-append f (x ∷ xs) ys = let e = sum_over-append f xs ys in omega (arith, ints)

-- a sum over a list is one over its places
pub sum_over-places : (f : Step → ℤ) (xs : List Step) → sum_over f xs ≡ sum_below (length xs) (λ k. f (step xs k))
sum_over-places f [] = refl
sum_over-places f (x ∷ xs) =
    let rest = sum_over-places f xs in
    let split = sum_below-front (length xs) (λ k. f (step (x ∷ xs) k)) in
    omega (arith, ints)

pub sum_over-joined : {A : Type 0} (f : A → ℤ) (n : ℕ) (g : ℕ → List A) → sum_over f (joined_below n g) ≡ sum_below n (λ j. sum_over f (g j))
sum_over-joined f zero g = refl
sum_over-joined f (suc n) g =
    let rest = sum_over-joined f n g in
    let parts = sum_over-append f (joined_below n g) (g n) in
    omega (arith, ints)

-- over one arc
along_arc : (net : Network) (x : ℕ → ℤ) (i j : ℕ) → tail net j ≢ head net j
    → sum_over (flow_along x) (step_at (arc_at net.arcs j) j i) ≡ counted (tail net j == i) (x j) -ℤ counted (head net j == i) (x j)
along_arc net x i j apart =
    ⊎_elim
    (λ (at_tail : tail net j ≡ i).
    let off_head : head net j ≢ i = (λ e. apart (at_tail ∙ sym e)) in
    rw (step_at-tail (arc_at net.arcs j) j i at_tail, eq-eqb (tail net j) i at_tail, ne_eqb (head net j) i off_head) (omega (arith, ints)))
    (λ (off_tail : tail net j ≡ i → ⊥).
    ⊎_elim
    (λ (at_head : head net j ≡ i).
    rw (step_at-head (arc_at net.arcs j) j i off_tail at_head, ne_eqb (tail net j) i off_tail, eq-eqb (head net j) i at_head) (omega (arith, ints)))
    (λ (off_head : head net j ≡ i → ⊥).
    rw (step_at-none (arc_at net.arcs j) j i off_tail off_head, ne_eqb (tail net j) i off_tail, ne_eqb (head net j) i off_head) (omega (arith, ints)))
    (cases_eq (head net j) i))
    (cases_eq (tail net j) i)

pub divergence-incident : (net : Network) (x : ℕ → ℤ) (i : ℕ) → AreArcs net.nodes net.arcs
    → divergence net x i ≡ sum_over (flow_along x) (incident_steps net.arcs i)
divergence-incident net x i good =
    let m = length net.arcs in
    let joined = sum_over-joined (flow_along x) m (λ j. step_at (arc_at net.arcs j) j i) in
    let each = sum_below-same m (λ j. sum_over (flow_along x) (step_at (arc_at net.arcs j) j i))
    (λ j. counted (tail net j == i) (x j) -ℤ counted (head net j == i) (x j)) (λ j there. along_arc net x i j (good.no_loops j there)) in
    let apart = sum_below-sub m (λ j. counted (tail net j == i) (x j)) (λ j. counted (head net j == i) (x j)) in
    omega (arith, ints)

pub divergence-places : (net : Network) (x : ℕ → ℤ) (i : ℕ) (steps : List Step) → AreArcs net.nodes net.arcs → steps ≡ incident_steps net.arcs i
    → sum_below (length steps) (λ k. flow_along x (step steps k)) ≡ divergence net x i
divergence-places net x i steps good e =
    sym (sum_over-places (flow_along x) steps) ∙ ap (sum_over (flow_along x)) e ∙ sym (divergence-incident net x i good)
