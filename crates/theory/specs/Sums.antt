-- Sums over a list and below a bound, the greatest of listed values, a fact of each element.
use Rattle.std.specs.Prelude.{ℕ, zero, suc, ◌+◌, ℤ, pos, negsuc, ◌+ℤ◌, List, [], ◌∷◌, Bool, true, false}
use Rattle.std.specs.Int.{int_max}

-- f x1 + .. + f xn
abbrev pub sum_over : {A : Type 0} → (A → ℤ) → List A → ℤ
sum_over f [] = pos 0
sum_over f (x ∷ xs) = f x +ℤ sum_over f xs

-- f 0 + .. + f (n - 1)
abbrev pub sum_below : ℕ → (ℕ → ℤ) → ℤ
sum_below zero f = pos 0
sum_below (suc n) f = sum_below n f +ℤ f n

-- the same of natural numbers
abbrev pub total_below : ℕ → (ℕ → ℕ) → ℕ
total_below zero f = 0
total_below (suc n) f = total_below n f + f n

-- the greatest of f x1, .., f xn
abbrev pub greatest_over : {A : Type 0} → (A → ℤ) → List A → ℤ
greatest_over f [] = pos 0
greatest_over f (x ∷ []) = f x
greatest_over f (x ∷ y ∷ ys) = int_max (f x) (greatest_over f (y ∷ ys))

-- P holds of each element
abbrev pub Each : {A : Type 0} → (A → Type 0) → List A → Type 0
Each P [] = Unit {0}
Each P (x ∷ xs) = P x × Each P xs

-- the number where the test passes, else 0: what a sum over some of its terms is made of
abbrev pub counted : Bool → ℤ → ℤ
counted true x = x
counted false x = pos 0

-- the number, or 0 where it is negative
abbrev pub positive_part : ℤ → ℕ
positive_part (pos n) = n
positive_part (negsuc n) = 0
