-- Tests of a whole list, said of each of its items.
use Rattle.std.specs.Prelude.{◌≡◌, ℕ, zero, suc, ◌<◌, Bool, true, false, ◌||◌, List, [], ◌∷◌, length, refl}
use Rattle.std.specs.List.{list_any}
use Rattle.std.proofs.Common.{arith, get_or}

pub neither : (a b : Bool) → (a || b) ≡ false → (a ≡ false) × (b ≡ false)
neither true b none = cc
neither false b none = (refl, none)

pub or-none : (b : Bool) → (b || false) ≡ b
or-none true = refl
or-none false = refl

pub false-unless : (b : Bool) → (b ≡ true → ⊥) → b ≡ false
false-unless b never = elim b as (λ v. (v ≡ true → ⊥) → v ≡ false) [ true ↦ λ given. absurd (given refl) | false ↦ λ given. refl ] never

pub none-at : {X : Type 0} (p : X → Bool) (xs : List X) → list_any p xs ≡ false → (k : ℕ) (d : X) → k < length xs → p (get_or xs k d) ≡ false
none-at p [] none k d below = absurd (omega arith)
none-at p (x ∷ xs) none zero d below = (neither (p x) (list_any p xs) none).0
none-at p (x ∷ xs) none (suc k) d below = none-at p xs (neither (p x) (list_any p xs) none).1 k d (omega arith)

pub none-by : {X : Type 0} (p : X → Bool) (xs : List X) (d : X) → ((k : ℕ) → k < length xs → p (get_or xs k d) ≡ false) → list_any p xs ≡ false
none-by p [] d each = refl
none-by p (x ∷ xs) d each = rw (each 0 (omega arith)) (none-by p xs d (λ k below. each (suc k) (omega arith)))
