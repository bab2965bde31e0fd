-- Whole numbers under `omega`: products of sums, and the order of products.
-- `ints` reads a whole number z as `up z - down z` and a product as the four products of these parts, but doesn't
-- multiply a sum out within a product. The lemmas below do, at one sum or product within a product each.
use Rattle.std.proofs.Common.{◌≡◌, refl, ap, ℕ, zero, suc, ◌+◌, ◌*◌, ◌≤◌, arith}
use Rattle.std.specs.Prelude.{ℤ, pos, negsuc, ◌+ℤ◌, ◌*ℤ◌, neg_ℤ, ◌≤ℤ◌, ◌<ℤ◌}
use Rattle.std.specs.Int.{int_min, int_max}
use Rattle.std.proofs.lemmas.Int.{ints, clamps, by_lt_z}
use Rattle.std.proofs.Math.Nat.{mul-le-mul_left}
use borrow.Author.Differences.{up, down, sum_is_lem, neg_is, product_is, le_out}

pub mul_sum_is : (a b c : ℤ) → up (a *ℤ (b +ℤ c)) + down (a *ℤ b) + down (a *ℤ c) ≡ down (a *ℤ (b +ℤ c)) + up (a *ℤ b) + up (a *ℤ c)
mul_sum_is a b c =
    let e : up a * (up (b +ℤ c) + down b + down c) ≡ up a * (down (b +ℤ c) + up b + up c) = ap (λ n. up a * n) (sum_is_lem b c) in
    let f : down a * (up (b +ℤ c) + down b + down c) ≡ down a * (down (b +ℤ c) + up b + up c) = ap (λ n. down a * n) (sum_is_lem b c) in
    omega (arith, product_is)

pub sum_mul_is : (a b c : ℤ) → up ((a +ℤ b) *ℤ c) + down (a *ℤ c) + down (b *ℤ c) ≡ down ((a +ℤ b) *ℤ c) + up (a *ℤ c) + up (b *ℤ c)
sum_mul_is a b c =
    let e : (up (a +ℤ b) + down a + down b) * up c ≡ (down (a +ℤ b) + up a + up b) * up c = ap (λ n. n * up c) (sum_is_lem a b) in
    let f : (up (a +ℤ b) + down a + down b) * down c ≡ (down (a +ℤ b) + up a + up b) * down c = ap (λ n. n * down c) (sum_is_lem a b) in
    omega (arith, product_is)

pub mul_neg_is : (a b : ℤ) → (up (a *ℤ neg_ℤ b) ≡ down (a *ℤ b)) × (down (a *ℤ neg_ℤ b) ≡ up (a *ℤ b))
mul_neg_is a b =
    let e : up a * up (neg_ℤ b) ≡ up a * down b = ap (λ n. up a * n) (neg_is b).0 in
    let f : up a * down (neg_ℤ b) ≡ up a * up b = ap (λ n. up a * n) (neg_is b).1 in
    let g : down a * up (neg_ℤ b) ≡ down a * down b = ap (λ n. down a * n) (neg_is b).0 in
    let h : down a * down (neg_ℤ b) ≡ down a * up b = ap (λ n. down a * n) (neg_is b).1 in
    omega (arith, product_is)

pub neg_mul_is : (a b : ℤ) → (up (neg_ℤ a *ℤ b) ≡ down (a *ℤ b)) × (down (neg_ℤ a *ℤ b) ≡ up (a *ℤ b))
neg_mul_is a b =
    let e : up (neg_ℤ a) * up b ≡ down a * up b = ap (λ n. n * up b) (neg_is a).0 in
    let f : up (neg_ℤ a) * down b ≡ down a * down b = ap (λ n. n * down b) (neg_is a).0 in
    let g : down (neg_ℤ a) * up b ≡ up a * up b = ap (λ n. n * up b) (neg_is a).1 in
    let h : down (neg_ℤ a) * down b ≡ up a * down b = ap (λ n. n * down b) (neg_is a).1 in
    omega (arith, product_is)

pub mul_mul_is : (a b c : ℤ) → (up ((a *ℤ b) *ℤ c) ≡ up a * up b * up c + down a * down b * up c + up a * down b * down c + down a * up b * down c)
    × (down ((a *ℤ b) *ℤ c) ≡ up a * up b * down c + down a * down b * down c + up a * down b * up c + down a * up b * up c)
mul_mul_is a b c =
    let e : up (a *ℤ b) * up c ≡ (up a * up b + down a * down b) * up c = ap (λ n. n * up c) (product_is a b).0 in
    let f : up (a *ℤ b) * down c ≡ (up a * up b + down a * down b) * down c = ap (λ n. n * down c) (product_is a b).0 in
    let g : down (a *ℤ b) * up c ≡ (up a * down b + down a * up b) * up c = ap (λ n. n * up c) (product_is a b).1 in
    let h : down (a *ℤ b) * down c ≡ (up a * down b + down a * up b) * down c = ap (λ n. n * down c) (product_is a b).1 in
    omega (arith, product_is)

pub mul_mul_is_left : (a b c : ℤ) → (up (a *ℤ (b *ℤ c)) ≡ up a * up b * up c + up a * down b * down c + down a * up b * down c + down a * down b * up c)
    × (down (a *ℤ (b *ℤ c)) ≡ up a * up b * down c + up a * down b * up c + down a * up b * up c + down a * down b * down c)
mul_mul_is_left a b c =
    let e : up a * up (b *ℤ c) ≡ up a * (up b * up c + down b * down c) = ap (λ n. up a * n) (product_is b c).0 in
    let f : down a * up (b *ℤ c) ≡ down a * (up b * up c + down b * down c) = ap (λ n. down a * n) (product_is b c).0 in
    let g : up a * down (b *ℤ c) ≡ up a * (up b * down c + down b * up c) = ap (λ n. up a * n) (product_is b c).1 in
    let h : down a * down (b *ℤ c) ≡ down a * (up b * down c + down b * up c) = ap (λ n. down a * n) (product_is b c).1 in
    omega (arith, product_is)

-- `omega (arith, rings)` proves equations and inequalities up to the third degree. A sum within a product of three is
-- not multiplied out: prove the step with a variable in the sum's place.
pub ruleset rings = (ints, mul_sum_is, sum_mul_is, mul_neg_is, neg_mul_is, mul_mul_is, mul_mul_is_left)

-- ---- the order of products

-- by the size of a natural factor
pub scale_mono : (n : ℕ) (a b : ℤ) → a ≤ℤ b → (pos n *ℤ a) ≤ℤ (pos n *ℤ b)
scale_mono n a b h = let e = mul-le-mul_left n (le_out a b h) in omega (arith, ints)

pub scale_strict : (n : ℕ) (a b : ℤ) → 1 ≤ n → a <ℤ b → (pos n *ℤ a) <ℤ (pos n *ℤ b)
scale_strict n a b p h =
    let e : n * (up a + down b + 1) ≤ n * (up b + down a) = mul-le-mul_left n (omega (arith, ints)) in
    omega (arith, ints)

pub scale_cancel : (n : ℕ) (a b : ℤ) → 1 ≤ n → (pos n *ℤ a) ≤ℤ (pos n *ℤ b) → a ≤ℤ b
scale_cancel n a b p h = by_lt_z b a (λ l. let m = scale_strict n b a p l in absurd (omega (arith, ints))) (λ l. l)

pub scale_cancel_strict : (n : ℕ) (a b : ℤ) → (pos n *ℤ a) <ℤ (pos n *ℤ b) → a <ℤ b
scale_cancel_strict n a b h = by_lt_z a b (λ l. l) (λ l. let m = scale_mono n b a l in absurd (omega (arith, ints)))

pub scale_cancel_equal : (n : ℕ) (a b : ℤ) → 1 ≤ n → pos n *ℤ a ≡ pos n *ℤ b → a ≡ b
scale_cancel_equal n a b p e =
    let l = scale_cancel n a b p (omega (arith, ints)) in
    let m = scale_cancel n b a p (omega (arith, ints)) in
    omega (arith, ints)

-- by the sign of a whole factor
pub mul_mono : (c a b : ℤ) → pos 0 ≤ℤ c → a ≤ℤ b → (c *ℤ a) ≤ℤ (c *ℤ b)
mul_mono (pos n) a b p h = scale_mono n a b h
mul_mono (negsuc n) a b p h = absurd (omega (arith, ints))

pub mul_positives : (a b : ℤ) → pos 0 ≤ℤ a → pos 0 ≤ℤ b → pos 0 ≤ℤ (a *ℤ b)
mul_positives a b p h = let e = mul_mono a (pos 0) b p h in omega (arith, ints)

pub mul_negatives : (a b : ℤ) → a ≤ℤ pos 0 → b ≤ℤ pos 0 → pos 0 ≤ℤ (a *ℤ b)
mul_negatives a b p h = let e = mul_positives (neg_ℤ a) (neg_ℤ b) (omega (arith, ints)) (omega (arith, ints)) in omega (arith, rings)

pub mul_strict : (a b : ℤ) → pos 0 <ℤ a → pos 0 <ℤ b → pos 0 <ℤ (a *ℤ b)
mul_strict (pos n) b p h = let e = scale_strict n (pos 0) b (omega (arith, ints)) h in omega (arith, ints)
mul_strict (negsuc n) b p h = absurd (omega (arith, ints))

times_zero : (a b : ℤ) → b ≡ pos 0 → pos 0 ≤ℤ (a *ℤ b)
times_zero a b e = rw e (omega (arith, ints))

-- where the signs of two factors agree, the product is not negative
pub mul_agreeing : (a b : ℤ) → (pos 0 <ℤ b → pos 0 ≤ℤ a) → (b <ℤ pos 0 → a ≤ℤ pos 0) → pos 0 ≤ℤ (a *ℤ b)
mul_agreeing a b above below = by_lt_z (pos 0) b (λ up_sign. mul_positives a b (above up_sign) (omega (arith, ints))) not_above
  where
    not_above : b ≤ℤ pos 0 → pos 0 ≤ℤ (a *ℤ b)
    not_above most = by_lt_z b (pos 0) (λ down_sign. mul_negatives a b (below down_sign) most) (λ least. times_zero a b (omega (arith, ints)))

-- the other factor of a product of 0
pub mul_zero_right : (a b : ℤ) → a *ℤ b ≡ pos 0 → ¬ (a ≡ pos 0) → b ≡ pos 0
mul_zero_right (pos zero) b e apart = absurd (apart refl)
mul_zero_right (pos (suc n)) b e apart = scale_cancel_equal (suc n) b (pos 0) (omega arith) (omega (arith, ints))
mul_zero_right (negsuc n) b e apart = scale_cancel_equal (suc n) b (pos 0) (omega arith) (omega (arith, ints))

-- ---- by 1, and the greater and the lesser of two products

pub one_times : (x : ℤ) → pos 1 *ℤ x ≡ x
one_times x = omega (arith, ints)

greater_left : (a b : ℤ) → b ≤ℤ a → int_max a b ≡ a
greater_left a b h = omega (arith, ints, clamps)

greater_right : (a b : ℤ) → a ≤ℤ b → int_max a b ≡ b
greater_right a b h = omega (arith, ints, clamps)

pub int_max-scale : (n : ℕ) (a b : ℤ) → int_max (pos n *ℤ a) (pos n *ℤ b) ≡ pos n *ℤ int_max a b
int_max-scale n a b = by_lt_z b a (λ less. left (omega (arith, ints))) right
  where
    left : b ≤ℤ a → int_max (pos n *ℤ a) (pos n *ℤ b) ≡ pos n *ℤ int_max a b
    left h = rw (greater_left a b h) (greater_left (pos n *ℤ a) (pos n *ℤ b) (scale_mono n b a h))

    right : a ≤ℤ b → int_max (pos n *ℤ a) (pos n *ℤ b) ≡ pos n *ℤ int_max a b
    right h = rw (greater_right a b h) (greater_right (pos n *ℤ a) (pos n *ℤ b) (scale_mono n a b h))

lesser_left : (a b : ℤ) → a ≤ℤ b → int_min a b ≡ a
lesser_left a b h = omega (arith, ints, clamps)

lesser_right : (a b : ℤ) → b ≤ℤ a → int_min a b ≡ b
lesser_right a b h = omega (arith, ints, clamps)

pub int_min-scale : (n : ℕ) (a b : ℤ) → int_min (pos n *ℤ a) (pos n *ℤ b) ≡ pos n *ℤ int_min a b
int_min-scale n a b = by_lt_z b a (λ less. right (omega (arith, ints))) left
  where
    left : a ≤ℤ b → int_min (pos n *ℤ a) (pos n *ℤ b) ≡ pos n *ℤ int_min a b
    left h = rw (lesser_left a b h) (lesser_left (pos n *ℤ a) (pos n *ℤ b) (scale_mono n a b h))

    right : b ≤ℤ a → int_min (pos n *ℤ a) (pos n *ℤ b) ≡ pos n *ℤ int_min a b
    right h = rw (lesser_right a b h) (lesser_right (pos n *ℤ a) (pos n *ℤ b) (scale_mono n b a h))
