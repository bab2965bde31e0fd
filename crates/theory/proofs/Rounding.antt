-- Division by a power of two, rounded down and up. A quotient is known by n q <= a < n (q + 1), and its order by that.
use Rattle.std.proofs.Common.{◌≡◌, ℕ, ◌^◌, ◌≤◌, ℤ, pos, negsuc, ◌+ℤ◌, ◌*ℤ◌, neg_ℤ, ◌≤ℤ◌, ◌<ℤ◌, true, false, refl, sym, ap, arith, pow_pos, div-one}
use Rattle.std.specs.Int.{int_div_euclid}
use Rattle.std.proofs.lemmas.Int.{ints}
use Rattle.theory.specs.declared.ext.Ext.{Ext}
use Rattle.theory.specs.declared.ext.Ext.TheVariants.{MinusInf, At, PlusInf}
use Rattle.theory.specs.Ends.{IsBelow, is_below}
use Rattle.theory.specs.Views.{rounded_down, rounded_up}
use Rattle.theory.proofs.Rings.{rings, scale_cancel_strict}

pub quotient_low : (n : ℕ) (a : ℤ) → 1 ≤ n → (pos n *ℤ int_div_euclid a (pos n)) ≤ℤ a
quotient_low n (pos a) h = omega (arith, ints)
quotient_low n (negsuc a) h = omega (arith, ints)

pub quotient_high : (n : ℕ) (a : ℤ) → 1 ≤ n → a <ℤ (pos n *ℤ (int_div_euclid a (pos n) +ℤ pos 1))
quotient_high n (pos a) h = omega (arith, rings)
quotient_high n (negsuc a) h = omega (arith, rings)

pub quotient_mono : (n : ℕ) (a b : ℤ) → 1 ≤ n → a ≤ℤ b → int_div_euclid a (pos n) ≤ℤ int_div_euclid b (pos n)
quotient_mono n a b h le =
    let low = quotient_low n a h in
    let high = quotient_high n b h in
    let strict = scale_cancel_strict n (int_div_euclid a (pos n)) (int_div_euclid b (pos n) +ℤ pos 1) (omega (arith, ints)) in
    omega (arith, ints)

-- rounded down is at most rounded up
pub quotient_opposite : (n : ℕ) (a : ℤ) → 1 ≤ n → int_div_euclid a (pos n) ≤ℤ neg_ℤ (int_div_euclid (neg_ℤ a) (pos n))
quotient_opposite n a h =
    let low = quotient_low n a h in
    let other = quotient_low n (neg_ℤ a) h in
    let strict = scale_cancel_strict n (int_div_euclid a (pos n) +ℤ int_div_euclid (neg_ℤ a) (pos n)) (pos 1) (omega (arith, rings)) in
    omega (arith, ints)

-- ---- ends

not_less : (a b : ℤ) → b ≤ℤ a → is_below (At a) (At b) ≡ false
not_less a b h = sym (omega (arith, ints))

pub down-mono : (k : ℕ) (d e : Ext) → IsBelow d e → is_below (rounded_down k e) (rounded_down k d) ≡ false
down-mono k MinusInf MinusInf h = refl
down-mono k MinusInf (At b) h = refl
down-mono k MinusInf PlusInf h = refl
down-mono k (At a) MinusInf h = let f : false ≡ true = h in cc
down-mono k (At a) (At b) h = not_less _ _ (quotient_mono (2 ^ k) a b (pow_pos k) (omega (arith, ints)))
down-mono k (At a) PlusInf h = refl
down-mono k PlusInf e h = let f : false ≡ true = h in cc

pub up-above_down : (k : ℕ) (d e : Ext) → IsBelow d e → is_below (rounded_up k e) (rounded_down k d) ≡ false
up-above_down k MinusInf MinusInf h = refl
up-above_down k MinusInf (At b) h = refl
up-above_down k MinusInf PlusInf h = refl
up-above_down k (At a) MinusInf h = let f : false ≡ true = h in cc
up-above_down k (At a) (At b) h =
    let least : int_div_euclid a (pos (2 ^ k)) ≤ℤ int_div_euclid b (pos (2 ^ k)) = quotient_mono (2 ^ k) a b (pow_pos k) (omega (arith, ints)) in
    let most = quotient_opposite (2 ^ k) b (pow_pos k) in
    not_less (neg_ℤ (int_div_euclid (neg_ℤ b) (pos (2 ^ k)))) (int_div_euclid a (pos (2 ^ k))) (omega (arith, ints))
up-above_down k (At a) PlusInf h = refl
up-above_down k PlusInf e h = let f : false ≡ true = h in cc

pub up-above_own_down : (k : ℕ) (p : ℤ) → is_below (rounded_up k (At p)) (rounded_down k (At p)) ≡ false
up-above_own_down k p = not_less _ _ (quotient_opposite (2 ^ k) p (pow_pos k))

-- ---- at level 0

quotient_one : (a : ℤ) → int_div_euclid a (pos 1) ≡ a
quotient_one (pos a) = ap pos (div-one a)
quotient_one (negsuc a) = ap negsuc (div-one a)

pub down-zero : (e : Ext) → rounded_down 0 e ≡ e
down-zero MinusInf = refl
down-zero (At a) = ap At (quotient_one a)
down-zero PlusInf = refl
