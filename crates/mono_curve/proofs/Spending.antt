-- How many looks a halving search makes. As long as d halvings would bring what is left below 1, so that it is below 2 ^ d, the
-- search has spent no more than what the halvings so far cost: each look at least halves what is left, and takes one from d.
use Rattle.std.proofs.Common.{◌≡◌, ℕ, zero, suc, ◌+◌, ◌*◌, ◌/◌, ◌^◌, ◌<◌, ◌≤◌, arith}
use Rattle.std.proofs.Math.Nat.{mul-suc, mul-add}
use Rattle.mono_curve.specs.Counted.{IsCounted}

pub record IsSpent (weight digits size old new : ℕ) : Type 0 where
  pub left : ℕ
  pub size_below : size < 2 ^ left
  pub spent : new + weight * left ≤ old + weight * digits

pub nothing_spent : (weight digits size old : ℕ) → size < 2 ^ digits → IsSpent weight digits size old old
nothing_spent weight digits size old below = record { left = digits; size_below = below; spent = omega arith }

half_below : (size half left : ℕ) → 1 ≤ size → half ≤ size / 2 → size < 2 ^ suc left → half < 2 ^ left
half_below size half left some less below = let double : 2 ^ suc left ≡ 2 * 2 ^ left = omega arith in omega arith

one_more : (weight left new newer limit : ℕ) → newer ≤ new + weight → new + weight * suc left ≤ limit → newer + weight * left ≤ limit
one_more weight left new newer limit look spent = let e = mul-suc weight left in omega arith

spent_by : (weight digits size half old new newer left : ℕ) → 1 ≤ size → half ≤ size / 2 → IsCounted weight new newer → size < 2 ^ left → new + weight * left ≤ old + weight * digits
    → IsSpent weight digits half old newer
spent_by weight digits size half old new newer zero some less look below spent = absurd (omega arith)
spent_by weight digits size half old new newer (suc left) some less look below spent =
    record {
      left = left;
      size_below = half_below size half left some less below;
      spent = one_more weight left new newer (old + weight * digits) look.most spent;
    }

pub halving_spent : (weight digits size half old new newer : ℕ) → 1 ≤ size → half ≤ size / 2 → IsCounted weight new newer → IsSpent weight digits size old new
    → IsSpent weight digits half old newer
halving_spent weight digits size half old new newer some less look known =
    spent_by weight digits size half old new newer known.left some less look known.size_below known.spent

pub all_spent : (weight digits size old new : ℕ) → IsSpent weight digits size old new → new ≤ old + weight * digits
all_spent weight digits size old new known = let s = known.spent in omega arith

-- the search, and four looks behind it
pub four_more : (weight digits old searched new : ℕ) → searched ≤ old + weight * digits → new ≤ searched + 4 * weight → new ≤ old + weight * (digits + 8)
four_more weight digits old searched new search rest = let e = mul-add weight digits 8 in omega arith
