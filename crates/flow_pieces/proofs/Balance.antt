-- A circuit brings nothing to any node: each of its steps takes from the node where it begins what it brings to the node where
-- it ends, and there the next one begins. So what a circuit leaves of a conserved flow is conserved, and the other way round.
use Rattle.std.proofs.Common.{◌≡◌, ℕ, suc, ◌<◌, ◌==◌, ℤ, pos, ◌+ℤ◌, ◌-ℤ◌, ◌*ℤ◌, neg_ℤ, Bool, true, false, if◌then◌else◌, List, [], ◌∷◌, length, refl, ap, ◌∙◌, arith}
use Rattle.std.proofs.lemmas.Int.{ints}
use Rattle.theory.specs.declared.network.Step.{Step}
use Rattle.theory.specs.Sums.{sum_below, counted}
use Rattle.theory.specs.Network.{Network, tail, head}
use Rattle.theory.specs.Conserved.{IsConserved, outflow, inflow, divergence}
use Rattle.theory.specs.Circuit.{IsCircuit, WalkIsThere}
use Rattle.theory.proofs.Rings.{rings}
use Rattle.theory.proofs.SumsBelow.{sum_below-same, sum_below-zero, sum_below-add, sum_below-sub, sum_below-pick, counted-zero, counted-add}
use Rattle.theory.proofs.Refusals.{around}
use Rattle.theory.proofs.Unbounded.{mark_of, brought}
use Rattle.flow_pieces.specs.Pieces.{FlowPiece, directed, carried, left_by}

-- ---- what a walk brings

counted-swap : (b c : Bool) (x : ℤ) → counted b (counted c x) ≡ counted c (counted b x)
counted-swap true c x = refl
counted-swap false true x = refl
counted-swap false false x = refl

-- one step more: d on arc a, which has its end at node i or not
by_step : (m : ℕ) (end : ℕ → ℕ) (i a : ℕ) (d : ℤ) (y : ℕ → ℤ) → a < m
    → sum_below m (λ j. counted (end j == i) (counted (a == j) d +ℤ y j))
    ≡ counted (end a == i) d +ℤ sum_below m (λ j. counted (end j == i) (y j))
by_step m end i a d y there =
    let spread = sum_below-same m (λ j. counted (end j == i) (counted (a == j) d +ℤ y j))
    (λ j. counted (a == j) (counted (end j == i) d) +ℤ counted (end j == i) (y j))
    (λ j l. counted-add (end j == i) (counted (a == j) d) (y j)
    ∙ ap (λ z. z +ℤ counted (end j == i) (y j)) (counted-swap (end j == i) (a == j) d)) in
    let apart = sum_below-add m (λ j. counted (a == j) (counted (end j == i) d)) (λ j. counted (end j == i) (y j)) in
    let one = sum_below-pick m a (λ j. counted (end j == i) d) there in
    omega (arith, ints)

by_marks : (d : ℤ) (at_tail at_head : Bool)
    → counted at_tail d -ℤ counted at_head d +ℤ d *ℤ (counted at_head (pos 1) -ℤ counted at_tail (pos 1)) ≡ pos 0
by_marks d true true = omega (arith, rings)
by_marks d true false = omega (arith, rings)
by_marks d false true = omega (arith, rings)
by_marks d false false = omega (arith, rings)

brings : (weight : ℤ) (forward : Bool) (i from to : ℕ)
    → counted (from == i) (directed weight forward) -ℤ counted (to == i) (directed weight forward)
    +ℤ weight *ℤ (mark_of i (if forward then to else from) -ℤ mark_of i (if forward then from else to)) ≡ pos 0
brings weight true i from to = by_marks weight (from == i) (to == i)
brings weight false i from to = let e = by_marks (neg_ℤ weight) (from == i) (to == i) in omega (arith, rings)

nothing : (m : ℕ) (end : ℕ → ℕ) (i : ℕ) (x : ℕ → ℤ) → ((j : ℕ) → j < m → x j ≡ pos 0) → sum_below m (λ j. counted (end j == i) (x j)) ≡ pos 0
nothing m end i x none = sum_below-zero m (λ j. counted (end j == i) (x j)) (λ j l. counted-zero (end j == i) (x j) (none j l))

carried-divergence : (net : Network) (weight : ℤ) (walk : List Step) (i : ℕ) → WalkIsThere net walk
    → divergence net (carried weight walk) i +ℤ weight *ℤ brought net i walk ≡ pos 0
carried-divergence net weight [] i there =
    let out = nothing (length net.arcs) (tail net) i (λ j. pos 0) (λ j l. refl) in
    let into = nothing (length net.arcs) (head net) i (λ j. pos 0) (λ j l. refl) in
    omega (arith, ints)
carried-divergence net weight (s ∷ walk) i there =
    let a = s.arc.0 in
    let on_arc : a < length net.arcs = there 0 (omega arith) in
    let d = directed weight s.forward in
    let out = by_step (length net.arcs) (tail net) i a d (carried weight walk) on_arc in
    let into = by_step (length net.arcs) (head net) i a d (carried weight walk) on_arc in
    let here = brings weight s.forward i (tail net a) (head net a) in
    let later = carried-divergence net weight walk i (λ k l. there (suc k) (omega arith)) in
    omega (arith, rings)

balanced : (w d b : ℤ) → d +ℤ w *ℤ b ≡ pos 0 → b ≡ pos 0 → d ≡ pos 0
balanced w d b sum none = let h = rw none at sum in omega (arith, ints)

pub carried-balanced : (net : Network) (weight : ℤ) (walk : List Step) (i : ℕ) → WalkIsThere net walk → IsCircuit net walk
    → divergence net (carried weight walk) i ≡ pos 0
carried-balanced net weight walk i there circuit =
    balanced weight (divergence net (carried weight walk) i) (brought net i walk)
    (carried-divergence net weight walk i there) (around net (mark_of i) walk circuit)

-- ---- what it leaves

counted-sub : (b : Bool) (x y : ℤ) → counted b (x -ℤ y) ≡ counted b x -ℤ counted b y
counted-sub true x y = refl
counted-sub false x y = refl

by_difference : (m : ℕ) (end : ℕ → ℕ) (i : ℕ) (x y : ℕ → ℤ)
    → sum_below m (λ j. counted (end j == i) (x j -ℤ y j))
    ≡ sum_below m (λ j. counted (end j == i) (x j)) -ℤ sum_below m (λ j. counted (end j == i) (y j))
by_difference m end i x y =
    sum_below-same m (λ j. counted (end j == i) (x j -ℤ y j)) (λ j. counted (end j == i) (x j) -ℤ counted (end j == i) (y j))
    (λ j l. counted-sub (end j == i) (x j) (y j))
    ∙ sum_below-sub m (λ j. counted (end j == i) (x j)) (λ j. counted (end j == i) (y j))

-- with l the divergence of what is left, x that of the flow and c that of what was taken off
left-divergence : (net : Network) (rest : ℕ → ℤ) (p : FlowPiece) (i : ℕ) → WalkIsThere net p.walk → IsCircuit net p.walk
    → divergence net (left_by rest p) i ≡ divergence net rest i
left-divergence net rest p i there circuit =
    let out = by_difference (length net.arcs) (tail net) i rest (carried p.weight p.walk) in
    let into = by_difference (length net.arcs) (head net) i rest (carried p.weight p.walk) in
    let none = carried-balanced net p.weight p.walk i there circuit in
    omega (arith, ints)

pub left-conserved : (net : Network) (rest : ℕ → ℤ) (p : FlowPiece) → WalkIsThere net p.walk → IsCircuit net p.walk
    → IsConserved net rest → IsConserved net (left_by rest p)
left-conserved net rest p there circuit conserved i l =
    let same = left-divergence net rest p i there circuit in
    let even : outflow net rest i ≡ inflow net rest i = conserved i l in
    omega (arith, ints)

pub conserved-back : (net : Network) (rest : ℕ → ℤ) (p : FlowPiece) → WalkIsThere net p.walk → IsCircuit net p.walk
    → IsConserved net (left_by rest p) → IsConserved net rest
conserved-back net rest p there circuit conserved i l =
    let same = left-divergence net rest p i there circuit in
    let even : outflow net (left_by rest p) i ≡ inflow net (left_by rest p) i = conserved i l in
    omega (arith, ints)

pub nothing-conserved : (net : Network) (rest : ℕ → ℤ) → ((j : ℕ) → j < length net.arcs → rest j ≡ pos 0) → IsConserved net rest
nothing-conserved net rest none i l =
    let out = nothing (length net.arcs) (tail net) i rest none in
    let into = nothing (length net.arcs) (head net) i rest none in
    omega (arith, ints)
