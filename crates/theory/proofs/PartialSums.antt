-- A further term of a sum.
use Rattle.std.proofs.Common.{◌≡◌, ℕ, suc, ◌+◌, ◌*◌, ℤ, ◌+ℤ◌, refl, arith}
use Rattle.theory.specs.Limits.{IsWithin}
use Rattle.theory.proofs.Bounds.{within_sum}
use Rattle.theory.specs.PartialSum.{IsPartialSum}

pub partial-further : (term : ℕ → ℤ) (most n : ℕ) (sum z : ℤ) → IsPartialSum term most n sum → z ≡ term n → IsWithin most z
    → IsPartialSum term most (n + 1) (sum +ℤ z)
partial-further term most n sum z so_far is small = record {
  is = let e : n + 1 ≡ suc n = omega arith in rw (e, so_far.is, is) refl;
  within =
      let e : (n + 1) * most ≡ n * most + most = omega arith in
      rw e (within_sum (n * most) most sum z so_far.within small);
}
