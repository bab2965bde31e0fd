-- The law of pieces. On each arc what a piece leaves is between 0 and what there was: the weight is no more than the arc has,
-- and it is taken off in the direction of the flow. So what goes along the rest goes along the flow, and an arc that carries
-- nothing stays so; and the arc where the weight was met carries nothing from then on, which no two pieces have in common.
use Rattle.std.proofs.Common.{◌≡◌, ◌≢◌, ℕ, zero, suc, ◌<◌, ◌≤◌, ℤ, pos, negsuc, ◌-ℤ◌, neg_ℤ, ◌≤ℤ◌, ◌<ℤ◌, Bool, true, false, if◌then◌else◌, List, [], ◌∷◌, length, refl, sym, ap, subst, ⊎_elim, arith}
use Rattle.std.proofs.lemmas.Int.{ints, by_lt_z}
use Rattle.std.proofs.lemmas.Bool.{cases_lt}
use Rattle.theory.specs.declared.network.Step.{Step}
use Rattle.theory.specs.Sums.{total_below}
use Rattle.theory.specs.Limits.{IsWithin}
use Rattle.theory.specs.Network.{Network}
use Rattle.theory.specs.Circuit.{step}
use Rattle.theory.proofs.Sums.{Each-map}
use Rattle.theory.proofs.Counting.{total_below-order}
use Rattle.net_incidence.specs.FlowAlong.{flow_along}
use Rattle.flow_pieces.specs.Pieces.{FlowPiece, directed, carried, left_by, GoesAlong, IsLeastAlong, IsPiece}
use Rattle.flow_pieces.specs.PiecesLaws.{carries, count_carrying, IsCircuitOfFlow, IsSumOfCircuits, PiecesLaw}
use Rattle.flow_pieces.proofs.Carrying.{ArcsDiffer, GoesOver, GoesOff, over_or_off, carried-off, carried-over}
use Rattle.flow_pieces.proofs.Balance.{conserved-back, nothing-conserved}

-- b is between 0 and a
pub record IsNearer (a b : ℤ) : Type 0 where
  pub above : pos 0 <ℤ b → b ≤ℤ a
  pub below : b <ℤ pos 0 → a ≤ℤ b

abbrev pub AreNearer : (ℕ → ℤ) → (ℕ → ℤ) → Type 0
AreNearer x y = (j : ℕ) → IsNearer (x j) (y j)

-- ---- one arc

nearer_by : (weight a : ℤ) (forward : Bool) → pos 0 ≤ℤ weight → weight ≤ℤ (if forward then a else (neg_ℤ a))
    → IsNearer a (a -ℤ directed weight forward)
nearer_by weight a true some most = record { above = λ up. omega (arith, ints); below = λ down. omega (arith, ints) }
nearer_by weight a false some most = record { above = λ up. omega (arith, ints); below = λ down. omega (arith, ints) }

nearer-same : (a b : ℤ) → b ≡ a → IsNearer a b
nearer-same a b same = record { above = λ up. omega (arith, ints); below = λ down. omega (arith, ints) }

emptied_by : (weight a : ℤ) (forward : Bool) → weight ≡ (if forward then a else (neg_ℤ a)) → a -ℤ directed weight forward ≡ pos 0
emptied_by weight a true all = omega (arith, ints)
emptied_by weight a false all = omega (arith, ints)

pub weight-positive : (rest : ℕ → ℤ) (walk : List Step) (weight : ℤ) → GoesAlong rest walk → IsLeastAlong rest walk weight → pos 0 <ℤ weight
weight-positive rest walk weight along weighs =
    let some = along weighs.met.0 weighs.met.1 in
    let is = weighs.met.2 in
    omega (arith, ints)

-- ---- what a circuit leaves

pub left-nearer : (rest : ℕ → ℤ) (p : FlowPiece) → ArcsDiffer p.walk → GoesAlong rest p.walk → IsLeastAlong rest p.walk p.weight
    → AreNearer rest (left_by rest p)
left-nearer rest p differ along weighs j =
    let some = weight-positive rest p.walk p.weight along weighs in
    ⊎_elim
    (λ (over : GoesOver p.walk j).
    let s = step p.walk over.place in
    let here : carried p.weight p.walk s.arc.0 ≡ directed p.weight s.forward = carried-over p.weight p.walk over.place differ over.there in
    let near : IsNearer (rest s.arc.0) (rest s.arc.0 -ℤ directed p.weight s.forward) =
    nearer_by p.weight (rest s.arc.0) s.forward (omega (arith, ints)) (weighs.least over.place over.there) in
    let P : ℤ → Type 0 = λ z. IsNearer (rest s.arc.0) (rest s.arc.0 -ℤ z) in
    let Q : ℕ → Type 0 = λ n. IsNearer (rest n) (left_by rest p n) in
    subst Q over.is (subst P (sym here) near))
    (λ (off : GoesOff p.walk j).
    let none = carried-off p.weight p.walk j off in
    nearer-same (rest j) (left_by rest p j) (omega (arith, ints)))
    (over_or_off p.walk j)

-- the arc where the weight is met carries nothing any more
left-emptied : (rest : ℕ → ℤ) (p : FlowPiece) → ArcsDiffer p.walk → (weighs : IsLeastAlong rest p.walk p.weight)
    → left_by rest p (step p.walk weighs.met.0).arc.0 ≡ pos 0
left-emptied rest p differ weighs =
    let k = weighs.met.0 in
    let s = step p.walk k in
    let here : carried p.weight p.walk s.arc.0 ≡ directed p.weight s.forward = carried-over p.weight p.walk k differ weighs.met.1 in
    let none = emptied_by p.weight (rest s.arc.0) s.forward weighs.met.2 in
    omega (arith, ints)

-- ---- what follows from being nearer

along_by : (a b : ℤ) (forward : Bool) → IsNearer a b → pos 0 <ℤ (if forward then b else (neg_ℤ b)) → pos 0 <ℤ (if forward then a else (neg_ℤ a))
along_by a b true near up = let more = near.above up in omega (arith, ints)
along_by a b false near up = let more = near.below (omega (arith, ints)) in omega (arith, ints)

pub along-back : (x y : ℕ → ℤ) (s : Step) → AreNearer x y → pos 0 <ℤ flow_along y s → pos 0 <ℤ flow_along x s
along-back x y s near up = along_by (x s.arc.0) (y s.arc.0) s.forward (near s.arc.0) up

pub dry-on : (x y : ℕ → ℤ) (s : Step) → AreNearer x y → flow_along x s ≤ℤ pos 0 → flow_along y s ≤ℤ pos 0
dry-on x y s near none =
    by_lt_z (pos 0) (flow_along y s) (λ up. let more = along-back x y s near up in absurd (omega (arith, ints))) (λ least. least)

pub zero-on : (a b : ℤ) → IsNearer a b → a ≡ pos 0 → b ≡ pos 0
zero-on a (pos zero) near none = refl
zero-on a (pos (suc n)) near none = let more = near.above (omega (arith, ints)) in absurd (omega (arith, ints))
zero-on a (negsuc n) near none = let less = near.below (omega (arith, ints)) in absurd (omega (arith, ints))

pub within-on : (most : ℕ) (a b : ℤ) → IsNearer a b → IsWithin most a → IsWithin most b
within-on most a b near within =
    by_lt_z (pos 0) b
    (λ up. let more = near.above up in (omega (arith, ints, within), omega (arith, ints, within)))
    (λ least. by_lt_z b (pos 0)
    (λ down. let less = near.below down in (omega (arith, ints, within), omega (arith, ints, within)))
    (λ most_too. (omega (arith, ints), omega (arith, ints))))

-- ---- how many arcs carry something

abbrev hit : ℤ → ℕ
hit z = if carries z then 1 else 0

hit-most : (a : ℤ) → hit a ≤ 1
hit-most (pos zero) = omega arith
hit-most (pos (suc n)) = omega arith
hit-most (negsuc n) = omega arith

hit-none : (a : ℤ) → a ≡ pos 0 → hit a ≡ 0
hit-none a none = rw none refl

hit-some : (a : ℤ) → a ≢ pos 0 → hit a ≡ 1
hit-some (pos zero) some = absurd (some refl)
hit-some (pos (suc n)) some = refl
hit-some (negsuc n) some = refl

hit-nearer : (a b : ℤ) → IsNearer a b → hit b ≤ hit a
hit-nearer (pos zero) b near = let e = hit-none b (zero-on (pos zero) b near refl) in omega arith
hit-nearer (pos (suc n)) b near = hit-most b
hit-nearer (negsuc n) b near = hit-most b

total_below-less : (n a : ℕ) (f g : ℕ → ℕ) → a < n → ((k : ℕ) → k < n → f k ≤ g k) → f a < g a → total_below n f < total_below n g
total_below-less zero a f g there most less = absurd (omega arith)
total_below-less (suc n) a f g there most less =
    let last : f n ≤ g n = most n (omega arith) in
    ⊎_elim
    (λ (below : a < n).
    let e : total_below n f < total_below n g = total_below-less n a f g below (λ k l. most k (omega arith)) less in
    omega arith)
    (λ (above : n ≤ a).
    let here : a ≡ n = omega arith in
    let f_here : f a ≡ f n = ap f here in
    let g_here : g a ≡ g n = ap g here in
    let e : total_below n f ≤ total_below n g = total_below-order n f g (λ k l. most k (omega arith)) in
    omega arith)
    (cases_lt a n)

flows-some : (a : ℤ) (forward : Bool) → pos 0 <ℤ (if forward then a else (neg_ℤ a)) → a ≢ pos 0
flows-some a true up none = omega (arith, ints)
flows-some a false up none = omega (arith, ints)

pub count-falls : (net : Network) (rest : ℕ → ℤ) (p : FlowPiece) → IsPiece net rest p
    → count_carrying (length net.arcs) (left_by rest p) < count_carrying (length net.arcs) rest
count-falls net rest p piece =
    let near = left-nearer rest p piece.circuit.arcs_differ piece.along piece.weighs in
    let k = piece.weighs.met.0 in
    let s = step p.walk k in
    let none = hit-none (left_by rest p s.arc.0) (left-emptied rest p piece.circuit.arcs_differ piece.weighs) in
    let some = hit-some (rest s.arc.0) (flows-some (rest s.arc.0) s.forward (piece.along k piece.weighs.met.1)) in
    total_below-less (length net.arcs) s.arc.0 (λ j. hit (left_by rest p j)) (λ j. hit (rest j)) (piece.there k piece.weighs.met.1)
    (λ j l. hit-nearer (rest j) (left_by rest p j) (near j)) (omega arith)

-- ---- the law

circuit-back : (net : Network) (x y : ℕ → ℤ) (p : FlowPiece) → AreNearer x y → IsCircuitOfFlow net y p → IsCircuitOfFlow net x p
circuit-back net x y p near of_rest = record {
  there = of_rest.there;
  circuit = of_rest.circuit;
  along = λ k l. along-back x y (step p.walk k) near (of_rest.along k l);
  weight = of_rest.weight;
  first = of_rest.first;
}

circuit-of_piece : (net : Network) (x : ℕ → ℤ) (p : FlowPiece) → IsPiece net x p → IsCircuitOfFlow net x p
circuit-of_piece net x p piece = record {
  there = piece.there;
  circuit = piece.circuit;
  along = piece.along;
  weight = let some = weight-positive x p.walk p.weight piece.along piece.weighs in omega (arith, ints);
  first = piece.first;
}

pub sum_of_pieces : PiecesLaw
sum_of_pieces net x [] none = record {
  sums = λ j l. sym (none j l);
  few = omega arith;
  circuits = tt;
  conserved = nothing-conserved net x none;
}
sum_of_pieces net x (p ∷ later) are =
    let piece = are.0 in
    let rest : IsSumOfCircuits net (left_by x p) later = sum_of_pieces net (left_by x p) later are.1 in
    let near = left-nearer x p piece.circuit.arcs_differ piece.along piece.weighs in record {
      sums = λ j l. (let e = rest.sums j l in omega (arith, ints));
      few = let fewer = count-falls net x p piece in let e = rest.few in omega arith;
      circuits = (
        circuit-of_piece net x p piece,
        Each-map (IsCircuitOfFlow net (left_by x p)) (IsCircuitOfFlow net x) later (λ q of_rest. circuit-back net x (left_by x p) q near of_rest) rest.circuits,
      );
      conserved = conserved-back net x p piece.there piece.circuit rest.conserved;
    }
