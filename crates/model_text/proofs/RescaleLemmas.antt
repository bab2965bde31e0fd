-- Numbers at another scale. Where a number is exact there, its units afterwards times 10^before are its units before times
-- 10^after, and neither power is 0: so exact numbers keep their order, and 0 is the only one that becomes 0.
use Rattle.std.specs.Prelude.{◌≡◌, ℕ, suc, ◌+◌, ◌*◌, ◌%◌, ◌^◌, ◌<◌, ◌≤◌, ◌==◌, nat_lt, ℤ, pos, negsuc, neg_ℤ, Bool, true, false, not, ◌||◌, int_lt, unsigned_abs, refl}
use Rattle.std.proofs.Common.{arith, sym, ap, ◌∙◌, lit≤, to_z, of_z}
use Rattle.std.specs.Int.{w64, w128}
use Rattle.std.proofs.Math.Nat.{one-le-pow, mod-add-div', lt_of_mul-lt-mul_right, mul-lt-mul_of_pos_right}
use Rattle.std.proofs.lemmas.Bool.Decides.{nat_tests}
use Rattle.std.proofs.lemmas.Int.{ints, to_z-of_z}
use Rattle.theory.specs.Limits.{number_most, IsWithin}
use Rattle.theory.proofs.Bounds.{within_fits64, within_fits128}
use Rattle.model_text.specs.Rescaled.{rescaled_units, rescaled_number, are_inexact}
use Rattle.model_text.specs.declared.rescaling.Decimals.{Decimals}
use Rattle.model_text.proofs.ListTests.{neither}

pub ten-some : (k : ℕ) → 0 < 10 ^ k
ten-some k = one-le-pow k 10 (omega arith)

module _ (d : Decimals) where
  whole-then : (n : ℕ) → are_inexact d n ≡ false → n * 10 ^ d.after % 10 ^ d.before ≡ 0
  whole-then n exact = by (n * 10 ^ d.after % 10 ^ d.before) (nat_lt number_most (rescaled_units d n)) exact
    where
      by : (rest : ℕ) (over : Bool) → (not (rest == 0) || over) ≡ false → rest ≡ 0
      by rest over none = at (rest == 0) refl (neither (not (rest == 0)) over none).0
        where
          at : (is : Bool) → (rest == 0) ≡ is → not is ≡ false → rest ≡ 0
          at true told none = grind (arith, nat_tests)
          at false told none = cc

  pub few-then : (n : ℕ) → are_inexact d n ≡ false → rescaled_units d n ≤ number_most
  few-then n exact = by (not (n * 10 ^ d.after % 10 ^ d.before == 0)) (rescaled_units d n) exact
    where
      by : (part : Bool) (units : ℕ) → (part || nat_lt number_most units) ≡ false → units ≤ number_most
      by true units none = cc
      by false units none = grind (arith, nat_tests)

  pub exact-units : (n : ℕ) → are_inexact d n ≡ false → rescaled_units d n * 10 ^ d.before ≡ n * 10 ^ d.after
  exact-units n exact =
      by _ _ _ (mod-add-div' (n * 10 ^ d.after) (10 ^ d.before)) (whole-then n exact)
    where
      by : (rest units finest : ℕ) → rest + units ≡ finest → rest ≡ 0 → units ≡ finest
      by rest units finest sum none = omega arith

  pub units-rise : (m n : ℕ) → are_inexact d m ≡ false → are_inexact d n ≡ false → m < n → rescaled_units d m < rescaled_units d n
  units-rise m n first second less =
      lt_of_mul-lt-mul_right (10 ^ d.before)
      (rw (exact-units m first, exact-units n second) (mul-lt-mul_of_pos_right less (ten-some d.after)))

  pub units-some : (n : ℕ) → are_inexact d n ≡ false → 0 < n → 0 < rescaled_units d n
  units-some n exact some =
      lt_of_mul-lt-mul_right (10 ^ d.before) (by (10 ^ d.after) (10 ^ d.before) _ _ (mul-lt-mul_of_pos_right some (ten-some d.after)) (exact-units n exact))
    where
      by : (a b finest units : ℕ) → 0 * a < finest → units ≡ finest → 0 * b < units
      by a b finest units some same = omega arith

  -- whole numbers of either sign keep their order
  pub numbers-rise : (a b : ℤ) → are_inexact d (unsigned_abs a) ≡ false → are_inexact d (unsigned_abs b) ≡ false
      → int_lt a b ≡ true → int_lt (rescaled_number d a) (rescaled_number d b) ≡ true
  numbers-rise (pos m) (pos n) first second less =
      by (rescaled_units d m) (rescaled_units d n) (units-rise m n first second (grind (arith, nat_tests)))
    where
      by : (u v : ℕ) → u < v → int_lt (pos u) (pos v) ≡ true
      by u v rise = sym (omega (arith, ints))
  numbers-rise (pos m) (negsuc n) first second less = cc
  numbers-rise (negsuc m) (pos n) first second less = by (rescaled_units d (suc m)) (rescaled_units d n) (units-some (suc m) first (omega arith))
    where
      by : (u v : ℕ) → 0 < u → int_lt (neg_ℤ (pos u)) (pos v) ≡ true
      by u v some = sym (omega (arith, ints))
  numbers-rise (negsuc m) (negsuc n) first second less =
      by (rescaled_units d (suc n)) (rescaled_units d (suc m)) (units-rise (suc n) (suc m) second first (grind (arith, nat_tests)))
    where
      by : (u v : ℕ) → u < v → int_lt (neg_ℤ (pos v)) (neg_ℤ (pos u)) ≡ true
      by u v rise = sym (omega (arith, ints))

  pub number-within : (a : ℤ) → are_inexact d (unsigned_abs a) ≡ false → IsWithin number_most (rescaled_number d a)
  number-within (pos n) exact = let most = few-then n exact in (omega (arith, ints), omega (arith, ints))
  number-within (negsuc n) exact = let most = few-then (suc n) exact in (omega (arith, ints), omega (arith, ints))

-- ---- numbers within the limit are the same in 64 and in 128 bits

pub narrowed : (z : ℤ) → IsWithin number_most z → to_z w64 (of_z w64 (to_z w128 (of_z w128 z))) ≡ z
narrowed z small =
    ap (λ a. to_z w64 (of_z w64 a)) (to_z-of_z w128 z (within_fits128 number_most z small (lit≤ tt)))
    ∙ to_z-of_z w64 z (within_fits64 number_most z small (lit≤ tt))

pub widened : (z : ℤ) → IsWithin number_most z → to_z w128 (of_z w128 (to_z w64 (of_z w64 z))) ≡ z
widened z small =
    ap (λ a. to_z w128 (of_z w128 a)) (to_z-of_z w64 z (within_fits64 number_most z small (lit≤ tt)))
    ∙ to_z-of_z w128 z (within_fits128 number_most z small (lit≤ tt))
