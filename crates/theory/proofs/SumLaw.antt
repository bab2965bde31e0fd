-- The sum law. Give each node a number g. Summed over the nodes, g times what leaves a node is the sum over the arcs of
-- the flow times g at the arc's tail: each arc leaves exactly one node, so of the sum over the nodes one term is left for
-- each arc. In the same way g times what enters is the sum of the flow times g at the head. The difference of the two:
-- g times the divergence, over the nodes, is minus the flow times the tension of g, over the arcs. Where the flow is
-- conserved the first sum is 0, which is the sum law; where g marks a set of nodes it is the net flow out of the set.
use Rattle.std.proofs.Common.{◌≡◌, ℕ, zero, suc, ◌<◌, ℤ, pos, negsuc, ◌+ℤ◌, ◌-ℤ◌, ◌*ℤ◌, neg_ℤ, Bool, true, false, not, ◌&&◌, ◌==◌, length, refl, ◌∙◌, arith}
use Rattle.std.proofs.lemmas.Int.{ints}
use Rattle.theory.specs.Sums.{sum_below, counted}
use Rattle.theory.specs.Network.{Network, IsNetwork, tail, head, over_arcs}
use Rattle.theory.specs.Conserved.{IsConserved, outflow, inflow, divergence, tension}
use Rattle.theory.specs.NetworkLaws.{SumLaw}
use Rattle.theory.proofs.Rings.{rings}
use Rattle.theory.proofs.SumsBelow.{sum_below-same, sum_below-zero, counted-zero, sum_below-add, sum_below-sub, sum_below-mul, sum_below-pick}

-- the sum over all nodes
abbrev pub over_nodes : Network → (ℕ → ℤ) → ℤ
over_nodes net f = sum_below net.nodes f

mul_counted : (b : Bool) (a x : ℤ) → a *ℤ counted b x ≡ counted b (x *ℤ a)
mul_counted true a x = omega (arith, ints)
mul_counted false a x = omega (arith, ints)

-- sums over nodes of what stands at the arcs' ends are sums over the arcs
pub by_ends : (n m : ℕ) (end : ℕ → ℕ) (x g : ℕ → ℤ) → ((j : ℕ) → j < m → end j < n)
    → sum_below n (λ i. g i *ℤ sum_below m (λ j. counted (end j == i) (x j))) ≡ sum_below m (λ j. x j *ℤ g (end j))
by_ends n zero end x g there = sum_below-zero n (λ i. g i *ℤ pos 0) (λ i l. omega (arith, ints))
by_ends n (suc m) end x g there =
    let before = by_ends n m end x g (λ j l. there j (omega arith)) in
    let spread = sum_below-same n
    (λ i. g i *ℤ (sum_below m (λ j. counted (end j == i) (x j)) +ℤ counted (end m == i) (x m)))
    (λ i. g i *ℤ sum_below m (λ j. counted (end j == i) (x j)) +ℤ counted (end m == i) (x m *ℤ g i))
    (λ i l. let e = mul_counted (end m == i) (g i) (x m) in omega (arith, rings)) in
    let apart = sum_below-add n
    (λ i. g i *ℤ sum_below m (λ j. counted (end j == i) (x j)))
    (λ i. counted (end m == i) (x m *ℤ g i)) in
    let last = sum_below-pick n (end m) (λ i. x m *ℤ g i) (there m (omega arith)) in
    omega (arith, ints)

-- what stands at the nodes against what flows on the arcs
pub flow_law : (net : Network) (x g : ℕ → ℤ) → IsNetwork net
    → over_nodes net (λ i. g i *ℤ divergence net x i) ≡ neg_ℤ (over_arcs net (λ j. x j *ℤ tension net g j))
flow_law net x g good =
    let out = by_ends net.nodes (length net.arcs) (tail net) x g good.tails in
    let into = by_ends net.nodes (length net.arcs) (head net) x g good.heads in
    let spread = sum_below-same net.nodes
    (λ i. g i *ℤ (outflow net x i -ℤ inflow net x i))
    (λ i. g i *ℤ outflow net x i -ℤ g i *ℤ inflow net x i)
    (λ i l. omega (arith, rings)) in
    let apart = sum_below-sub net.nodes (λ i. g i *ℤ outflow net x i) (λ i. g i *ℤ inflow net x i) in
    let arcs_spread = sum_below-same (length net.arcs)
    (λ j. x j *ℤ (g (head net j) -ℤ g (tail net j)))
    (λ j. x j *ℤ g (head net j) -ℤ x j *ℤ g (tail net j))
    (λ j l. omega (arith, rings)) in
    let arcs_apart = sum_below-sub (length net.arcs) (λ j. x j *ℤ g (head net j)) (λ j. x j *ℤ g (tail net j)) in
    omega (arith, ints)

pub divergence-conserved : (net : Network) (x : ℕ → ℤ) → IsConserved net x → (i : ℕ) → i < net.nodes → divergence net x i ≡ pos 0
divergence-conserved net x conserved i l = let e = conserved i l in omega (arith, ints)

pub sum_law : SumLaw
sum_law net x u good conserved =
    let law = flow_law net x u good in
    let none = sum_below-zero net.nodes (λ i. u i *ℤ divergence net x i)
    (λ i l. let e = divergence-conserved net x conserved i l in rw e (omega (arith, ints))) in
    omega (arith, ints)

-- ---- cuts

-- what crosses a set of nodes on arc j: the flow, its opposite, or nothing
abbrev pub crossing : Network → (ℕ → Bool) → (ℕ → ℤ) → ℕ → ℤ
crossing net set x j =
    counted (set (tail net j) && not (set (head net j))) (x j) -ℤ counted (not (set (tail net j)) && set (head net j)) (x j)

-- the mark of a set of nodes
abbrev pub mark : (ℕ → Bool) → ℕ → ℤ
mark set i = counted (set i) (pos 1)

mark-crossing : (at_tail at_head : Bool) (x : ℤ)
    → neg_ℤ (x *ℤ (counted at_head (pos 1) -ℤ counted at_tail (pos 1)))
    ≡ counted (at_tail && not at_head) x -ℤ counted (not at_tail && at_head) x
mark-crossing true true x = omega (arith, rings)
mark-crossing true false x = omega (arith, rings)
mark-crossing false true x = omega (arith, rings)
mark-crossing false false x = omega (arith, rings)

mark-counted : (b : Bool) (x : ℤ) → counted b (pos 1) *ℤ x ≡ counted b x
mark-counted true x = omega (arith, ints)
mark-counted false x = omega (arith, ints)

-- the divergences over a set of nodes add up to the flow across it
pub cut_law : (net : Network) (set : ℕ → Bool) (x : ℕ → ℤ) → IsNetwork net
    → over_nodes net (λ i. counted (set i) (divergence net x i)) ≡ over_arcs net (crossing net set x)
cut_law net set x good =
    let law = flow_law net x (mark set) good in
    let at_nodes = sum_below-same net.nodes
    (λ i. mark set i *ℤ divergence net x i) (λ i. counted (set i) (divergence net x i))
    (λ i l. mark-counted (set i) (divergence net x i)) in
    let at_arcs = sum_below-same (length net.arcs)
    (λ j. negsuc 0 *ℤ (x j *ℤ tension net (mark set) j)) (crossing net set x)
    (λ j l. let e = mark-crossing (set (tail net j)) (set (head net j)) (x j) in omega (arith, ints)) in
    let turned = sum_below-mul (length net.arcs) (negsuc 0) (λ j. x j *ℤ tension net (mark set) j) in
    omega (arith, ints)

-- nothing conserved crosses a set of nodes on the whole
pub cut_law-conserved : (net : Network) (set : ℕ → Bool) (x : ℕ → ℤ) → IsNetwork net → IsConserved net x
    → over_arcs net (crossing net set x) ≡ pos 0
cut_law-conserved net set x good conserved =
    let law = cut_law net set x good in
    let none = sum_below-zero net.nodes (λ i. counted (set i) (divergence net x i))
    (λ i l. let e = divergence-conserved net x conserved i l in counted-zero (set i) (divergence net x i) e) in
    omega (arith, ints)

-- the divergences of all nodes add up to 0, so a flow that is conserved at all nodes but one is conserved there too
pub divergence-total : (net : Network) (x : ℕ → ℤ) → IsNetwork net → over_nodes net (divergence net x) ≡ pos 0
divergence-total net x good =
    cut_law net (λ i. true) x good ∙ sum_below-zero (length net.arcs) (crossing net (λ i. true) x) (λ j l. refl)
