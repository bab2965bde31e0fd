-- Lists of numbers by a function, and sums over a range in two parts.
use Rattle.std.proofs.Common.{◌≡◌, ◌≢◌, ℕ, zero, suc, ◌+◌, ◌<◌, ◌==◌, ℤ, pos, ◌+ℤ◌, ◌≤ℤ◌, Bool, true, false, List, [], ◌∷◌, length, refl, ap, sym, ◌∙◌, arith}
use Rattle.std.proofs.lemmas.Int.{ints}
use Rattle.std.proofs.lemmas.Bool.Decides.{nat_tests}
use Rattle.std.proofs.lemmas.Bool.{ne_eqb}
use Rattle.theory.specs.Network.{«at»}
use Rattle.theory.specs.Sums.{sum_below, counted}
use Rattle.theory.proofs.SumsBelow.{sum_below-order, sum_below-zero}

-- f 0, .., f (n - 1)
pub values : ℕ → (ℕ → ℤ) → List ℤ
values zero f = []
values (suc n) f = f 0 ∷ values n (λ k. f (suc k))

pub length-values : (n : ℕ) (f : ℕ → ℤ) → length (values n f) ≡ n
unfolding values
length-values zero f = refl
length-values (suc n) f = ap suc (length-values n (λ k. f (suc k)))

pub at-values : (n : ℕ) (f : ℕ → ℤ) (k : ℕ) → k < n → «at» (values n f) k ≡ f k
unfolding values
at-values zero f k there = absurd (omega arith)
at-values (suc n) f zero there = refl
at-values (suc n) f (suc k) there = at-values n (λ i. f (suc i)) k (omega arith)

pub sum_below-parts : (n m : ℕ) (f : ℕ → ℤ) → sum_below (n + m) f ≡ sum_below n f +ℤ sum_below m (λ k. f (n + k))
sum_below-parts n zero f =
    let same : n + zero ≡ n = omega arith in
    let e : sum_below (n + zero) f ≡ sum_below n f = ap (λ k. sum_below k f) same in
    omega (arith, ints)
sum_below-parts n (suc m) f =
    let e = sum_below-parts n m f in
    let same : n + suc m ≡ suc (n + m) = omega arith in
    let longer : sum_below (n + suc m) f ≡ sum_below (n + m) f +ℤ f (n + m) = ap (λ k. sum_below k f) same in
    omega (arith, ints)

-- a sum of numbers that are not below 0
pub sum_not_below : (n : ℕ) (f : ℕ → ℤ) → ((k : ℕ) → k < n → pos 0 ≤ℤ f k) → pos 0 ≤ℤ sum_below n f
sum_not_below n f each =
    let e = sum_below-order n (λ k. pos 0) f each in
    let none = sum_below-zero n (λ k. pos 0) (λ k there. refl) in
    omega (arith, ints)

-- ---- numbers that count where two numbers are the same

pub counted-apart : (a b : ℕ) (x : ℤ) → a ≢ b → counted (a == b) x ≡ pos 0
counted-apart a b x apart = rw (ne_eqb a b apart) refl

pub counted-never : (b : Bool) (x : ℤ) → (b ≡ true → ⊥) → counted b x ≡ pos 0
counted-never true x never = absurd (never refl)
counted-never false x never = refl

pub counted-some : (b : Bool) (x : ℤ) → pos 0 ≤ℤ x → pos 0 ≤ℤ counted b x
counted-some true x some = some
counted-some false x some = omega (arith, ints)

pub same-next : (a b : ℕ) → (a + 1 == b + 1) ≡ (a == b)
same-next a b = grind (arith, nat_tests)

pub same-next-back : (a b : ℕ) → (a + 1 == b + 1) ≡ (b == a)
same-next-back a b = grind (arith, nat_tests)

pub same-is : (a b : ℕ) → (a == b) ≡ true → a ≡ b
same-is a b is = grind (arith, nat_tests)
