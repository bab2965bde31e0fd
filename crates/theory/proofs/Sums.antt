-- Sums and greatest values over a list, and facts of each element.
use Rattle.std.proofs.Common.{◌≡◌, ℕ, ℤ, pos, ◌+ℤ◌, ◌≤ℤ◌, List, [], ◌∷◌, refl, ap₂, arith}
use Rattle.std.specs.Prelude.{◌*ℤ◌}
use Rattle.std.specs.Int.{int_max}
use Rattle.std.proofs.lemmas.Int.{ints, clamps}
use Rattle.theory.specs.Sums.{sum_over, greatest_over, Each}
use Rattle.theory.proofs.Rings.{rings, int_max-scale}

-- ---- each element

pub Each-map : {A : Type 0} (P R : A → Type 0) (xs : List A) → ((x : A) → P x → R x) → Each P xs → Each R xs
Each-map P R [] f each = tt
Each-map P R (x ∷ xs) f each = (f x each.0, Each-map P R xs f each.1)

pub Each-zip : {A : Type 0} (P Q R : A → Type 0) (xs : List A) → ((x : A) → P x → Q x → R x) → Each P xs → Each Q xs → Each R xs
Each-zip P Q R [] f left right = tt
Each-zip P Q R (x ∷ xs) f left right = (f x left.0 right.0, Each-zip P Q R xs f left.1 right.1)

-- ---- sums

pub sum_over-each : {A : Type 0} (P : A → Type 0) (f g : A → ℤ) (xs : List A) → Each P xs → ((x : A) → P x → f x ≡ g x) → sum_over f xs ≡ sum_over g xs
sum_over-each P f g [] each same = refl
sum_over-each P f g (x ∷ xs) each same = let e = same x each.0 in let more = sum_over-each P f g xs each.1 same in omega (arith, ints)

pub sum_over-add : {A : Type 0} (f g h : A → ℤ) (xs : List A) → ((x : A) → f x ≡ g x +ℤ h x)
    → sum_over f xs ≡ sum_over g xs +ℤ sum_over h xs
sum_over-add f g h [] same = refl
sum_over-add f g h (x ∷ xs) same = let e = same x in let more = sum_over-add f g h xs same in omega (arith, ints)

pub sum_over-scale : {A : Type 0} (c : ℤ) (f g : A → ℤ) (xs : List A) → ((x : A) → f x ≡ c *ℤ g x) → sum_over f xs ≡ c *ℤ sum_over g xs
sum_over-scale c f g [] same = omega (arith, ints)
sum_over-scale c f g (x ∷ xs) same = let e = same x in let more = sum_over-scale c f g xs same in omega (arith, rings)

-- the order of the terms is that of the sums
pub sum_over-order : {A : Type 0} (f g : A → ℤ) (xs : List A) → Each (λ x. f x ≤ℤ g x) xs → sum_over f xs ≤ℤ sum_over g xs
sum_over-order f g [] each = omega (arith, ints)
sum_over-order f g (x ∷ xs) each = let here = each.0 in let more = sum_over-order f g xs each.1 in omega (arith, ints)

-- a sum of numbers that are not negative is none, and is 0 only if each is
pub sum_positives : {A : Type 0} (f : A → ℤ) (xs : List A) → Each (λ x. pos 0 ≤ℤ f x) xs → pos 0 ≤ℤ sum_over f xs
sum_positives f [] each = omega (arith, ints)
sum_positives f (x ∷ xs) each = let here = each.0 in let more = sum_positives f xs each.1 in omega (arith, ints)

pub sum_zeros : {A : Type 0} (f : A → ℤ) (xs : List A) → Each (λ x. pos 0 ≤ℤ f x) xs → sum_over f xs ≤ℤ pos 0 → Each (λ x. f x ≡ pos 0) xs
sum_zeros f [] each most = tt
sum_zeros f (x ∷ xs) each most =
    let here = each.0 in
    let more = sum_positives f xs each.1 in
    (omega (arith, ints), sum_zeros f xs each.1 (omega (arith, ints)))

-- ---- the greatest

-- x is one of the list
pub data IsAmong : ℤ → List ℤ → Type 0 where
  here : {x : ℤ} {xs : List ℤ} → IsAmong x (x ∷ xs)
  later : {x y : ℤ} {xs : List ℤ} → IsAmong x xs → IsAmong x (y ∷ xs)

pub greatest_at : (f : ℤ → ℤ) {x : ℤ} {xs : List ℤ} → IsAmong x xs → f x ≤ℤ greatest_over f xs
greatest_at f (here {xs = []}) = omega (arith, ints)
greatest_at f (here {xs = y ∷ ys}) = omega (arith, ints, clamps)
greatest_at f (later {xs = []} among) = elim among [ ]
greatest_at f (later {xs = y ∷ ys} among) = let most = greatest_at f among in omega (arith, ints, clamps)

pub greatest_most : (f : ℤ → ℤ) (z x : ℤ) (xs : List ℤ) → Each (λ y. f y ≤ℤ z) (x ∷ xs) → greatest_over f (x ∷ xs) ≤ℤ z
greatest_most f z x [] each = each.0
greatest_most f z x (y ∷ ys) each = let here = each.0 in let more = greatest_most f z y ys each.1 in omega (arith, ints, clamps)

pub greatest_over-same : (f g : ℤ → ℤ) (xs : List ℤ) → ((x : ℤ) → f x ≡ g x) → greatest_over f xs ≡ greatest_over g xs
greatest_over-same f g [] same = refl
greatest_over-same f g (x ∷ []) same = same x
greatest_over-same f g (x ∷ y ∷ ys) same = ap₂ int_max (same x) (greatest_over-same f g (y ∷ ys) same)

pub greatest_over-scale : (n : ℕ) (f g : ℤ → ℤ) (xs : List ℤ) → ((x : ℤ) → f x ≡ pos n *ℤ g x)
    → greatest_over f xs ≡ pos n *ℤ greatest_over g xs
greatest_over-scale n f g [] same = omega (arith, ints)
greatest_over-scale n f g (x ∷ []) same = same x
greatest_over-scale n f g (x ∷ y ∷ ys) same = rw (same x, greatest_over-scale n f g (y ∷ ys) same) (int_max-scale n (g x) (greatest_over g (y ∷ ys)))
