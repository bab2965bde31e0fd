-- The ground arcs are the first tree. At node i + 1 the ground arc i brings what the other arcs take away, which is the flow
-- law. From the ground the potential rises along the ground arc of a node to that of the node, so the rise along another arc is
-- that of its head's ground arc less that of its tail's, which is the tension law.
use Rattle.std.proofs.Common.{◌≡◌, ◌≢◌, ℕ, zero, suc, ◌+◌, ◌-◌, ◌<◌, ◌≤◌, ◌==◌, ℤ, pos, ◌+ℤ◌, ◌-ℤ◌, ◌*ℤ◌, neg_ℤ, Bool, true, false, length, refl, sym, ap, ap₂, ◌∙◌, ⊎_elim, inl, inr, eq-eqb, arith}
use Rattle.std.proofs.lemmas.Int.{ints}
use Rattle.std.proofs.lemmas.Bool.{cases_eq, cases_lt, ne_eqb}
use Rattle.theory.specs.Sums.{sum_below, counted}
use Rattle.theory.specs.Network.{Network, IsNetwork, tail, head}
use Rattle.theory.specs.Conserved.{IsConserved, tension}
use Rattle.theory.proofs.Rings.{rings}
use Rattle.theory.proofs.SumsBelow.{sum_below-same, sum_below-zero, sum_below-sub, sum_below-front, sum_below-pick}
use Rattle.tucker_tableau.specs.Tableau.{number, IsLawful}
use Rattle.tucker_tableau.specs.Table.{Table}
use Rattle.tucker_tableau.specs.First.{star, IsFirst}

-- arc i runs from the ground to node i + 1
pub record IsGroundedAt (net : Network) (n : ℕ) : Type 0 where
  pub nodes : n + 1 ≡ net.nodes
  pub tails : (i : ℕ) → i < n → tail net i ≡ 0
  pub heads : (i : ℕ) → i < n → head net i ≡ i + 1

-- a sum in two parts
parts : (n m : ℕ) (f : ℕ → ℤ) → sum_below (n + m) f ≡ sum_below n f +ℤ sum_below m (λ j. f (n + j))
parts n zero f = let e : n + 0 ≡ n = omega arith in rw e (omega (arith, ints))
parts n (suc m) f =
    let e : n + suc m ≡ suc (n + m) = omega arith in
    let before = parts n m f in
    rw e (omega (arith, ints))

star_times : (b c : Bool) (x : ℤ) → (counted b (pos 1) -ℤ counted c (pos 1)) *ℤ x ≡ counted b x -ℤ counted c x
star_times true true x = omega (arith, rings)
star_times true false x = omega (arith, rings)
star_times false true x = omega (arith, rings)
star_times false false x = omega (arith, rings)

-- at node i + 1
at_node : (net : Network) (n m i : ℕ) (x : ℕ → ℤ) → IsGroundedAt net n → n + m ≡ length net.arcs → IsConserved net x → i < n
    → x i ≡ sum_below m (λ j. star net n i j *ℤ x (n + j))
at_node net n m i x ground count conserved l =
    let out = λ (k : ℕ). counted (tail net k == i + 1) (x k) in
    let into = λ (k : ℕ). counted (head net k == i + 1) (x k) in
    let law : sum_below (length net.arcs) out ≡ sum_below (length net.arcs) into = conserved (i + 1) (let e = ground.nodes in omega arith) in
    let total_out : sum_below (length net.arcs) out ≡ sum_below n out +ℤ sum_below m (λ j. out (n + j)) = rw (← count) (parts n m out) in
    let total_into : sum_below (length net.arcs) into ≡ sum_below n into +ℤ sum_below m (λ j. into (n + j)) = rw (← count) (parts n m into) in
    let no_out = sum_below-zero n out (λ k h. let ne : tail net k ≢ i + 1 = (λ e. let z = ground.tails k h in omega arith) in rw (ne_eqb (tail net k) (i + 1) ne)) in
    let one_in : sum_below n into ≡ x i = sum_below-same n into (λ k. counted (i == k) (x k)) (λ k h. only k (ground.heads k h)) ∙ sum_below-pick n i x l in
    let each = sum_below-same m (λ j. star net n i j *ℤ x (n + j)) (λ j. out (n + j) -ℤ into (n + j)) (λ j h. star_times (tail net (n + j) == i + 1) (head net (n + j) == i + 1) (x (n + j))) in
    let apart = sum_below-sub m (λ j. out (n + j)) (λ j. into (n + j)) in
    omega (arith, ints)
  where
    only : (k : ℕ) → head net k ≡ k + 1 → counted (head net k == i + 1) (x k) ≡ counted (i == k) (x k)
    only k e = ⊎_elim
        (λ (same : i ≡ k). rw (eq-eqb (head net k) (i + 1) (let f = e in omega arith), eq-eqb i k same))
        (λ (ne : i ≡ k → ⊥). rw (ne_eqb (head net k) (i + 1) (λ f. ne (let g = e in omega arith)), ne_eqb i k ne))
        (cases_eq i k)

-- over the ground the rise of u to node k
over_ground : (n k : ℕ) (u : ℕ → ℤ) → k < n + 1 → sum_below n (λ i. counted (k == i + 1) (u (i + 1) -ℤ u 0)) ≡ u k -ℤ u 0
over_ground n k u l =
    let f = λ (i : ℕ). counted (k == i) (u i -ℤ u 0) in
    let all : sum_below (suc n) f ≡ u k -ℤ u 0 = sum_below-pick (suc n) k (λ i. u i -ℤ u 0) (omega arith) in
    let front = sum_below-front n f in
    let none : f 0 ≡ pos 0 = at_ground (k == 0) (u 0) in
    let same = sum_below-same n (λ i. f (suc i)) (λ i. counted (k == i + 1) (u (i + 1) -ℤ u 0)) (λ i h. let e : i + 1 ≡ suc i = omega arith in rw e refl) in
    omega (arith, ints)
  where
    at_ground : (b : Bool) (z : ℤ) → counted b (z -ℤ z) ≡ pos 0
    at_ground true z = omega (arith, ints)
    at_ground false z = refl

pub first_lawful : (net : Network) (table : Table) → IsNetwork net → IsGroundedAt net (length table.rows) → IsFirst net table
    → IsLawful net table.rows table.columns (star net (length table.rows))
first_lawful net table good ground first =
    let n = length table.rows in
    let m = length table.columns in
    let row : (i : ℕ) → i < n → number table.rows i ≡ i = first.rows in
    let column : (j : ℕ) → j < m → number table.columns j ≡ n + j = first.columns in
    record {
      split = record {
        count = first.row_count;
        rows_there = λ i l. let e = row i l in let c = first.column_count in omega arith;
        columns_there = λ j l. let e = column j l in let c = first.column_count in omega arith;
        rows_differ = λ i k l h same. let e = row i (omega arith) in let f = row k h in omega arith;
        columns_differ = λ i k l h same. let e = column i (omega arith) in let f = column k h in omega arith;
        apart = λ i j l h same. let e = row i l in let f = column j h in omega arith;
        size = first.column_count;
        every = λ k l. ⊎_elim
            (λ (below : k < n). inl (record { place = k; there = below; is = row k below }))
            (λ (above : n ≤ k).
            let at : k - n < m = let c = first.column_count in omega arith in
            inr (record { place = k - n; there = at; is = column (k - n) at ∙ back n k above })) (cases_lt k n);
      };
      spans = λ u level k l. ⊎_elim
          (λ (later : 0 < k).
          let i = k - 1 in
          let low : i < n = let e = first.row_count in omega arith in
          let rise : tension net u i ≡ pos 0 = ap (tension net u) (sym (row i low)) ∙ level i low in
          let at_head : u (head net i) ≡ u k = ap u (ground.heads i low ∙ up k later) in
          let at_tail : u (tail net i) ≡ u 0 = ap u (ground.tails i low) in
          omega (arith, ints))
          (λ (begin : k ≤ 0). let e : k ≡ 0 = omega arith in ap u e) (cases_lt 0 k);
      flow_law = λ x conserved i l.
          ap x (row i l) ∙ at_node net n m i x ground first.column_count conserved l
          ∙ sum_below-same m (λ j. star net n i j *ℤ x (n + j)) (λ j. star net n i j *ℤ x (number table.columns j)) (λ j h. ap (λ k. star net n i j *ℤ x k) (sym (column j h)));
      tension_law = λ u j l. tension_first net n (number table.columns j) j u good ground
          (let e = column j l in let c = first.column_count in omega arith) (column j l)
          ∙ ap neg_ℤ (sum_below-same n (λ i. star net n i j *ℤ (u (i + 1) -ℤ u 0)) (λ i. star net n i j *ℤ tension net u (number table.rows i))
          (λ i h. ap (λ w. star net n i j *ℤ w) (sym (ap (tension net u) (row i h) ∙ ap₂ (λ v w. u v -ℤ u w) (ground.heads i h) (ground.tails i h)))));
    }
  where
    back : (n k : ℕ) → n ≤ k → n + (k - n) ≡ k
    back n k h = omega arith

    up : (k : ℕ) → 0 < k → (k - 1) + 1 ≡ k
    up k h = omega arith

    last : (h t z A B S : ℤ) → A ≡ t -ℤ z → B ≡ h -ℤ z → S ≡ A -ℤ B → h -ℤ t ≡ neg_ℤ S
    last h t z A B S e f g = omega (arith, ints)

    tension_first : (net : Network) (n c j : ℕ) (u : ℕ → ℤ) → IsNetwork net → IsGroundedAt net n → c < length net.arcs → c ≡ n + j
        → tension net u c ≡ neg_ℤ (sum_below n (λ i. star net n i j *ℤ (u (i + 1) -ℤ u 0)))
    tension_first net n c j u good ground there e =
        let bound = good.tails c there in
        let bound_head = good.heads c there in
        let nodes = ground.nodes in
        let out = λ (i : ℕ). counted (tail net (n + j) == i + 1) (u (i + 1) -ℤ u 0) in
        let into = λ (i : ℕ). counted (head net (n + j) == i + 1) (u (i + 1) -ℤ u 0) in
        let at_tail : sum_below n out ≡ u (tail net (n + j)) -ℤ u 0 = over_ground n (tail net (n + j)) u (rw (← e) (omega arith)) in
        let at_head : sum_below n into ≡ u (head net (n + j)) -ℤ u 0 = over_ground n (head net (n + j)) u (rw (← e) (omega arith)) in
        let each = sum_below-same n (λ i. star net n i j *ℤ (u (i + 1) -ℤ u 0)) (λ i. out i -ℤ into i) (λ i h. star_times (tail net (n + j) == i + 1) (head net (n + j) == i + 1) (u (i + 1) -ℤ u 0)) in
        let apart = sum_below-sub n out into in
        ap (tension net u) e ∙ last (u (head net (n + j))) (u (tail net (n + j))) (u 0) (sum_below n out) (sum_below n into) (sum_below n (λ i. star net n i j *ℤ (u (i + 1) -ℤ u 0))) at_tail at_head (each ∙ apart)
