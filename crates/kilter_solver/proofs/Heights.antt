-- Heights: the values in their order, each raised over the one before by the gap between them, or by the limit where the
-- gap is greater. Equal values stand side by side and have one height, so any place of a value tells its height. Where no
-- value lies between two others, all that stands between their places is equal to the one or to the other; so one gap is
-- left to count, and the heights differ by it or by the limit.
use Rattle.std.proofs.Common.{◌≡◌, ◌≢◌, ℕ, zero, suc, ◌+◌, ◌-◌, ◌<◌, ◌≤◌, ◌^◌, ℤ, pos, negsuc, ◌+ℤ◌, ◌-ℤ◌, ◌*ℤ◌, ◌<ℤ◌, ◌≤ℤ◌, false, List, ◌++◌, length, Contains, IsSorted, Err, Less, Greater, refl, sym, ◌∙◌, ⊎_elim, arith, add-one}
use Rattle.std.specs.Int.{int_min}
use Rattle.std.specs.Ordering.{int_cmp, is_lt}
use Rattle.std.specs.Cmp.{int_cmp_total}
use Rattle.std.specs.List.Sorted.{IsPermutation, IsBinarySearchResult}
use Rattle.std.proofs.lemmas.Int.{ints, clamps}
use Rattle.std.proofs.lemmas.Bool.{cases_lt}
use Rattle.std.proofs.lemmas.Cmp.{int_ranked}
use Rattle.std.proofs.lemmas.List.{get_or_default, get_or_past, get_or-set_same, get_or-set_other, get_or_append_left}
use Rattle.std.proofs.Math.ListN.{set}
use Rattle.std.proofs.Math.Nat.{mul-le-mul_left}
use Rattle.std.proofs.lemmas.List.Sorted.{sorted_far, ranks_by, searchable_from_sorted, Contains-permutation, IsPermutation-sym}
use Rattle.theory.specs.Limits.{IsWithin}
use Rattle.theory.specs.Network.{«at»}
use Rattle.kilter_solver.specs.Gaps.{IsOutside, AreClosed, AreHeights, HasHeight, ArePlaced}

-- ---- values in their order

not_less : (x y : ℤ) → is_lt (int_cmp x y) ≡ false → y ≤ℤ x
not_less x y h = grind (arith, ints)

pub rising : (values : List ℤ) (p q : ℕ) → IsSorted int_cmp values → p ≤ q → q < length values → «at» values p ≤ℤ «at» values q
rising values p q sorted l there =
    not_less («at» values q) («at» values p)
    (sorted_far (λ x y. is_lt (int_cmp x y)) (ranks_by int_cmp_total (λ x. x)) values sorted p q (pos 0) l there)

-- a search for a value that is there finds it
not_itself : (x y : ℤ) → y ≡ x → int_cmp y x ≡ Less → ⊥
not_itself x y same e = let less : y <ℤ x = int_ranked y x Less (sym e) in omega (arith, ints)

not_beyond : (x y : ℤ) → y ≡ x → int_cmp y x ≡ Greater → ⊥
not_beyond x y same e = let more : x <ℤ y = int_ranked y x Greater (sym e) in omega (arith, ints)

pub never_missing : (values : List ℤ) (value : ℤ) (place : ℕ) → IsSorted int_cmp values → Contains values value
    → IsBinarySearchResult (λ y. int_cmp y value) values (Err place) → ⊥
never_missing values value place sorted (k, l, is) searched =
    let apart = searched (searchable_from_sorted int_cmp_total (λ y. y) values value sorted) in
    ⊎_elim
    (λ (before : k < place). not_itself value _ is (apart.0 k value (omega arith) before))
    (λ (after : place ≤ k). not_beyond value _ is (apart.1 k value after l))
    (cases_lt k place)

pub there-after : (xs ys : List ℤ) (i : ℕ) → IsPermutation xs ys → i < length xs → Contains ys («at» xs i)
there-after xs ys i moved l =
    Contains-permutation xs ys («at» xs i) moved (i, l, get_or_default xs i («at» xs i) (pos 0) l)

pub values-within : (most : ℕ) (xs ys : List ℤ) → IsPermutation xs ys → ((i : ℕ) → i < length xs → IsWithin most («at» xs i))
    → (p : ℕ) → p < length ys → IsWithin most («at» ys p)
values-within most xs ys moved within p l =
    let found = there-after ys xs p (IsPermutation-sym xs ys moved) l in
    let here : «at» xs found.0 ≡ «at» ys p = get_or_default xs found.0 (pos 0) («at» ys p) found.1 ∙ found.2 in
    rw (← here) (within found.0 found.1)

-- ---- heights

pub height-within : (n : ℕ) (most : ℤ) (values heights : List ℤ) (p : ℕ) → AreHeights n most values heights → IsSorted int_cmp values
    → n ≤ length values → pos 1 ≤ℤ most → p < n → (pos 0 ≤ℤ «at» heights p) × («at» heights p ≤ℤ (pos p *ℤ most))
height-within n most values heights zero piled sorted few some l = let e = piled.first in (omega (arith, ints), omega (arith, ints))
height-within n most values heights (suc p) piled sorted few some l =
    let before = height-within n most values heights p piled sorted few some (omega arith) in
    let up = rising values p (p + 1) sorted (omega arith) (omega arith) in
    let e = piled.next p (omega arith) in
    rw (← add-one p) (omega (arith, ints, clamps), omega (arith, ints, clamps))

-- a height is the limit so often at most
product-most : (k n : ℕ) (most : ℤ) → k ≤ n → pos 1 ≤ℤ most → (pos k *ℤ most) ≤ℤ (pos n *ℤ most)
product-most k n (pos m) l some = omega (arith, ints, mul-le-mul_left m l)
product-most k n (negsuc m) l some = absurd (omega (arith, ints))

pub height-small : (n : ℕ) (most : ℤ) (values heights : List ℤ) (p : ℕ) → AreHeights n most values heights → IsSorted int_cmp values
    → n ≤ length values → pos 1 ≤ℤ most → (pos (length values) *ℤ most) <ℤ pos (2 ^ 60) → p < n → IsWithin (2 ^ 60) («at» heights p)
height-small n most values heights p piled sorted few some small l =
    let within = height-within n most values heights p piled sorted few some l in
    let less = product-most p (length values) most (omega arith) some in
    (omega (arith, ints), omega (arith, ints))

pub heights-small : (most : ℤ) (values heights : List ℤ) → AreHeights (length values) most values heights → IsSorted int_cmp values
    → length heights ≡ length values → pos 1 ≤ℤ most → (pos (length values) *ℤ most) <ℤ pos (2 ^ 60) → (p : ℕ) → IsWithin (2 ^ 60) («at» heights p)
heights-small most values heights piled sorted one_each some small p =
    ⊎_elim
    (λ (there : p < length values). height-small (length values) most values heights p piled sorted (omega arith) some small there)
    (λ (past : length values ≤ p). rw (get_or_past heights p (pos 0) (omega arith)) (omega (arith, ints), omega (arith, ints)))
    (cases_lt p (length values))

-- one more height
pub one-more : (p : ℕ) (most : ℤ) (values heights : List ℤ) (height : ℤ) → AreHeights p most values heights → 1 ≤ p → p < length heights
    → height ≡ («at» heights (p - 1) +ℤ int_min («at» values p -ℤ «at» values (p - 1)) most)
    → AreHeights (p + 1) most values (set heights p height)
one-more p most values heights height piled some there is =
    record {
      first = let apart : 0 ≢ p = omega arith in rw get_or-set_other piled.first;
      next = λ q l. ⊎_elim
          (λ (before : q + 1 < p).
          let apart : q + 1 ≢ p = omega arith in
          let apart' : q ≢ p = omega arith in
          rw (get_or-set_other heights p (q + 1) height (pos 0) apart, get_or-set_other heights p q height (pos 0) apart') (piled.next q before))
          (λ (last : p ≤ q + 1).
          let here : p ≡ q + 1 = omega arith in
          let one_less : p - 1 ≡ q = omega arith in
          let apart : q ≢ p = omega arith in
          rw (← here, get_or-set_same heights p height (pos 0) there, get_or-set_other heights p q height (pos 0) apart, ← one_less) is)
          (cases_lt (q + 1) p);
    }

pub height-tie : (n : ℕ) (most : ℤ) (values heights : List ℤ) (p q : ℕ) → AreHeights n most values heights → IsSorted int_cmp values
    → n ≤ length values → pos 1 ≤ℤ most → p ≤ q → q < n → «at» values p ≡ «at» values q → «at» heights p ≡ «at» heights q
height-tie n most values heights p zero piled sorted few some l there tie = let e : p ≡ 0 = omega arith in rw e refl
height-tie n most values heights p (suc q) piled sorted few some l there tie =
    ⊎_elim
    (λ (before : p < suc q).
    let up = rising values q (q + 1) sorted (omega arith) (omega arith) in
    let from = rising values p q sorted (omega arith) (omega arith) in
    let tie' : «at» values p ≡ «at» values (q + 1) = rw add-one tie in
    let e = piled.next q (omega arith) in
    let rest = height-tie n most values heights p q piled sorted few some (omega arith) (omega arith) (omega (arith, ints)) in
    rw (← add-one q) (omega (arith, ints, clamps)))
    (λ (last : suc q ≤ p). let e : p ≡ suc q = omega arith in rw e refl)
    (cases_lt p (suc q))

pub height-gap : (n : ℕ) (most : ℤ) (values heights : List ℤ) (p q : ℕ) → AreHeights n most values heights → IsSorted int_cmp values
    → n ≤ length values → pos 1 ≤ℤ most → p < n → q < n → «at» values p <ℤ «at» values q
    → ((r : ℕ) → r < n → IsOutside («at» values p) («at» values q) («at» values r))
    → («at» heights q -ℤ «at» heights p) ≡ int_min («at» values q -ℤ «at» values p) most
height-gap n most values heights p zero piled sorted few some l there less apart =
    let down = rising values 0 p sorted (omega arith) (omega arith) in absurd (omega (arith, ints))
height-gap n most values heights p (suc q) piled sorted few some l there less apart =
    ⊎_elim
    (λ (before : p < suc q).
    let up = rising values q (q + 1) sorted (omega arith) (omega arith) in
    let from = rising values p q sorted (omega arith) (omega arith) in
    let e = piled.next q (omega arith) in
    ⊎_elim
    (λ (low : «at» values q ≤ℤ «at» values p).
    let tie = height-tie n most values heights p q piled sorted few some (omega arith) (omega arith) (omega (arith, ints)) in
    let same : «at» values p ≡ «at» values q = omega (arith, ints) in
    rw (← add-one q) (rw same (omega (arith, ints, clamps))))
    (λ (high : «at» values (suc q) ≤ℤ «at» values q).
    let high' : «at» values (q + 1) ≤ℤ «at» values q = rw add-one high in
    let same : «at» values (suc q) ≡ «at» values q = rw (← add-one q) (omega (arith, ints)) in
    let rest = height-gap n most values heights p q piled sorted few some l (omega arith) (rw (← same) less) (λ r m. rw (← same) (apart r m)) in
    rw same (rw (← add-one q) (omega (arith, ints, clamps))))
    (apart q (omega arith)))
    (λ (last : suc q ≤ p).
    let down = rising values (suc q) p sorted last (omega arith) in absurd (omega (arith, ints)))
    (cases_lt p (suc q))

height-same : (n : ℕ) (most : ℤ) (values heights : List ℤ) (p q : ℕ) → AreHeights n most values heights → IsSorted int_cmp values
    → n ≤ length values → pos 1 ≤ℤ most → p < n → q < n → «at» values p ≡ «at» values q → «at» heights p ≡ «at» heights q
height-same n most values heights p q piled sorted few some at_p at_q tie =
    ⊎_elim
    (λ (before : p < q). height-tie n most values heights p q piled sorted few some (omega arith) at_q tie)
    (λ (after : q ≤ p). sym (height-tie n most values heights q p piled sorted few some after at_p (sym tie)))
    (cases_lt p q)

-- ---- one word after the other

pub placed-more : (values heights u w : List ℤ) (ground height : ℤ) (i : ℕ) → i < length w → HasHeight values heights («at» u i) height
    → ((k : ℕ) → k < i → HasHeight values heights («at» u k) («at» w k +ℤ ground))
    → (k : ℕ) → k < i + 1 → HasHeight values heights («at» u k) («at» (set w i (height -ℤ ground)) k +ℤ ground)
placed-more values heights u w ground height i there here placed k l =
    ⊎_elim
    (λ (before : k < i).
    let apart : k ≢ i = omega arith in
    rw (get_or-set_other w i k (height -ℤ ground) (pos 0) apart) (placed k before))
    (λ (last : i ≤ k).
    let hit : k ≡ i = omega arith in
    let back : ((height -ℤ ground) +ℤ ground) ≡ height = omega (arith, ints) in
    rw (hit, get_or-set_same w i (height -ℤ ground) (pos 0) there, back) here)
    (cases_lt k i)

pub still-more : (u w : List ℤ) (i : ℕ) (x : ℤ) → ((k : ℕ) → i ≤ k → «at» w k ≡ «at» u k) → (k : ℕ) → i + 1 ≤ k → «at» (set w i x) k ≡ «at» u k
still-more u w i x still k l =
    let apart : k ≢ i = omega arith in rw (get_or-set_other w i k x (pos 0) apart) (still k (omega arith))

pub height-found : (most : ℕ) (values heights : List ℤ) (value height : ℤ) → ((p : ℕ) → IsWithin most («at» heights p))
    → HasHeight values heights value height → IsWithin most height
height-found most values heights value height within found = rw (← found.height_is) (within found.place)

-- ---- the potentials that stand at their heights

pub record IsPiled (n : ℕ) (most : ℤ) (potentials values heights : List ℤ) : Type 0 where
  pub few : n ≡ length values
  pub one_each : length potentials ≡ n
  pub some : pos 1 ≤ℤ most
  pub moved : IsPermutation potentials values
  pub sorted : IsSorted int_cmp values
  pub rise : AreHeights n most values heights

-- two potentials at their heights
same-placed : (n : ℕ) (most : ℤ) (potentials values heights : List ℤ) → IsPiled n most potentials values heights → (u v a b : ℤ)
    → HasHeight values heights u a → HasHeight values heights v b → u ≡ v → a ≡ b
same-placed n most potentials values heights piled u v a b at_u at_v tie =
    let few = piled.few in
    let there = at_u.there in
    let there' = at_v.there in
    sym at_u.height_is
    ∙ height-same n most values heights at_u.place at_v.place piled.rise piled.sorted (omega arith) piled.some (omega arith) (omega arith)
    (at_u.value_is ∙ tie ∙ sym at_v.value_is)
    ∙ at_v.height_is

-- a value is one of the potentials
outside-values : (n : ℕ) (most : ℤ) (potentials values heights : List ℤ) → IsPiled n most potentials values heights → (a b : ℤ)
    → ((j : ℕ) → j < n → IsOutside a b («at» potentials j)) → (r : ℕ) → r < n → IsOutside a b («at» values r)
outside-values n most potentials values heights piled a b apart r l =
    let few = piled.few in
    let one_each = piled.one_each in
    let found = there-after values potentials r (IsPermutation-sym potentials values piled.moved) (omega arith) in
    let here : «at» potentials found.0 ≡ «at» values r = get_or_default potentials found.0 (pos 0) («at» values r) found.1 ∙ found.2 in
    rw (← here) (apart found.0 (let k = found.1 in omega arith))

gap-placed : (n : ℕ) (most : ℤ) (potentials values heights : List ℤ) → IsPiled n most potentials values heights → (u v a b : ℤ)
    → HasHeight values heights u a → HasHeight values heights v b → u <ℤ v → ((j : ℕ) → j < n → IsOutside u v («at» potentials j))
    → (b -ℤ a) ≡ int_min (v -ℤ u) most
gap-placed n most potentials values heights piled u v a b at_u at_v less apart =
    let few = piled.few in
    let there = at_u.there in
    let there' = at_v.there in
    let gap = height-gap n most values heights at_u.place at_v.place piled.rise piled.sorted (omega arith) piled.some (omega arith) (omega arith)
    (rw (at_u.value_is, at_v.value_is) less)
    (rw (at_u.value_is, at_v.value_is) (outside-values n most potentials values heights piled u v apart)) in
    rw (at_u.value_is, at_v.value_is, at_u.height_is, at_v.height_is) at gap

closed : (n : ℕ) (most : ℤ) (potentials values heights : List ℤ) (w : ℕ → ℤ) → 1 ≤ n → IsPiled n most potentials values heights
    → ArePlaced n values heights («at» potentials) w → AreClosed n most («at» potentials) w
closed n most potentials values heights w some_node piled placed =
    record {
      ground =
          let same = same-placed n most potentials values heights piled _ _ _ _ (placed.each 0 some_node) placed.ground_is refl in
          omega (arith, ints);
      ties = λ i k li lk tie.
          let same = same-placed n most potentials values heights piled _ _ _ _ (placed.each i li) (placed.each k lk) tie in
          omega (arith, ints);
      gaps = λ i k li lk less apart.
          let gap = gap-placed n most potentials values heights piled _ _ _ _ (placed.each i li) (placed.each k lk) less apart in
          let rest : ((w k +ℤ placed.ground) -ℤ (w i +ℤ placed.ground)) ≡ (w k -ℤ w i) = omega (arith, ints) in
          sym rest ∙ gap;
    }

-- the words begin with the potentials
pub at-front : (n : ℕ) (words front back : List ℤ) → words ≡ front ++ back → length front ≡ n → (i : ℕ) → i < n → «at» words i ≡ «at» front i
at-front n words front back parts one_each i l = rw parts (get_or_append_left front back (pos 0) i (omega arith))

same-closed : (n : ℕ) (most : ℤ) (u v w z : ℕ → ℤ) → 1 ≤ n → ((i : ℕ) → i < n → v i ≡ u i) → ((i : ℕ) → i < n → z i ≡ w i)
    → AreClosed n most u w → AreClosed n most v z
same-closed n most u v w z some same_u same_w c =
    record {
      ground = same_w 0 some ∙ c.ground;
      ties = λ i k li lk tie. same_w i li ∙ c.ties i k li lk (sym (same_u i li) ∙ tie ∙ same_u k lk) ∙ sym (same_w k lk);
      gaps = λ i k li lk less apart.
          let e = same_u i li in
          let f = same_u k lk in
          rw (same_w i li, same_w k lk, e, f)
          (c.gaps i k li lk (rw (← e, ← f) less) (λ j lj. let g = same_u j lj in rw (← e, ← f, ← g) (apart j lj)));
    }

pub closed-words : (n : ℕ) (most : ℤ) (words new potentials replaced scratch rest values heights : List ℤ) → 1 ≤ n → length replaced ≡ n
    → words ≡ potentials ++ scratch → new ≡ replaced ++ rest → IsPiled n most potentials values heights
    → ArePlaced n values heights («at» potentials) («at» replaced) → AreClosed n most («at» words) («at» new)
closed-words n most words new potentials replaced scratch rest values heights some same_length parts new_parts piled placed =
    same-closed n most («at» potentials) («at» words) («at» replaced) («at» new) some
    (at-front n words potentials scratch parts piled.one_each) (at-front n new replaced rest new_parts same_length)
    (closed n most potentials values heights («at» replaced) some piled placed)
