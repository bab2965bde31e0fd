-- What the pass spends. At each level a round for each unit that the flows lack and a last look at each arc, and at the end one round more
-- where a cut is found. A level costs at most 3 (2 m + n + 2) m readings, and twice that with a cut at the end; with 21 levels
-- this is less than 3 * 21 * (m + 1) (n + 3) m, since m n >= n where there is an arc.
use Rattle.std.proofs.Common.{◌≡◌, ℕ, zero, suc, ◌+◌, ◌*◌, ◌≤◌, Bool, true, false, refl, arith}
use Rattle.std.proofs.Math.Nat.{mul-le-mul_left}
use Rattle.theory.specs.Limits.{level_most}
use Rattle.theory.specs.ReadingBound.{reading_unit}
use Rattle.feasible_flow.specs.UnderWay.{round_cost, look_cost}
use Rattle.feasible_flow.specs.ByLevels.{level_cost}

-- a round more counts as a round for each arc, where there is one
pub cut-spent : (n m j violation left start new : ℕ) → j + 1 ≤ m
    → new + left ≤ start + violation * round_cost n m + j * look_cost + round_cost n m
    → new ≤ start + level_cost n m violation + m * round_cost n m
cut-spent n m j violation left start new few spent =
    let e = mul-le-mul_left (round_cost n m) (some few) in
    omega (arith, e, spent, few)
  where
    some : j + 1 ≤ m → 1 ≤ m
    some few = omega arith

-- a level that begins with a violation of at most m costs no more than one that begins with m
level-most : (n m violation : ℕ) → violation ≤ m → level_cost n m violation ≤ level_cost n m m
level-most n m violation few = let e = mul-le-mul_left (round_cost n m) few in omega (arith, e)

pub one-more-level : (n m violation d start old new : ℕ) → violation ≤ m → old ≤ start + d * level_cost n m m
    → new ≤ old + level_cost n m violation → new ≤ start + (d + 1) * level_cost n m m
one-more-level n m violation d start old new few before more =
    let e = level-most n m violation few in
    omega (arith, e, before, more)

pub cut-at-level : (n m violation d start old new : ℕ) → violation ≤ m → d + 1 ≤ level_most + 1 → old ≤ start + d * level_cost n m m
    → new ≤ old + level_cost n m violation + m * round_cost n m → new ≤ start + (level_most + 1) * level_cost n m m + m * round_cost n m
cut-at-level n m violation d start old new few less before more =
    let e = level-most n m violation few in
    let all = mul-le-mul_left (level_cost n m m) less in
    omega (arith, e, all, before, more)

pub either-spent : (settled : Bool) (new mid more : ℕ) → (settled ≡ true → new ≤ mid) → (settled ≡ false → new ≤ mid + more) → new ≤ mid + more
either-spent true new mid more if_settled if_cut = let e = if_settled refl in omega arith
either-spent false new mid more if_settled if_cut = if_cut refl

-- ---- all together

levels-all : (n m : ℕ) → m * look_cost + (level_most + 1) * level_cost n m m + m * round_cost n m ≤ 3 * reading_unit n m level_most
levels-all n zero = omega arith
levels-all n (suc m) = omega arith

pub levels-spent : (n m start mid new : ℕ) → mid ≤ start + m * look_cost
    → new ≤ mid + (level_most + 1) * level_cost n m m + m * round_cost n m → new ≤ start + 3 * reading_unit n m level_most
levels-spent n m start mid new tested spent = let all = levels-all n m in omega (arith, all, tested, spent)

start-all : (n m : ℕ) → m * look_cost + level_cost n m (m * level_most) + m * round_cost n m ≤ 3 * reading_unit n m level_most
start-all n zero = omega arith
start-all n (suc m) = omega arith

pub start-spent : (n m violation start mid new : ℕ) → violation ≤ m * level_most → mid ≤ start + m * look_cost
    → new ≤ mid + level_cost n m violation + m * round_cost n m → new ≤ start + 3 * reading_unit n m level_most
start-spent n m violation start mid new little tested spent =
    let all = start-all n m in
    let e = mul-le-mul_left (round_cost n m) little in
    omega (arith, e, all, tested, spent)
