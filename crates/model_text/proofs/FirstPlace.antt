-- What `position` returns, in the words `before_first` and `after_first`.
use Rattle.std.specs.Prelude.{◌≡◌, ℕ, ◌+◌, ◌<◌, ◌≤◌, nat_lt, Bool, true, false, cond, refl, not, Option, None, Some, is_some, List, [], ◌∷◌, map, length, unwrap_or}
use Rattle.std.specs.List.{position_or_len, prefix_len}
use Rattle.std.proofs.Common.{arith, ap}
use Rattle.std.proofs.lemmas.List.Sums.{prefix_len-le-length}
use borrow.Author.Tests.{tests}

-- the answer of `position`
abbrev pub first_place : {X : Type 0} → (X → Bool) → List X → Option ℕ
first_place p xs = cond (nat_lt (position_or_len p xs) (length xs)) (Some (position_or_len p xs)) None

pub found : {X : Type 0} (p : X → Bool) (xs : List X) (place : ℕ) → Some place ≡ first_place p xs
    → (place ≡ position_or_len p xs) × (place < length xs)
found p xs place is = (grind (arith, tests), grind (arith, tests))

pub absent : {X : Type 0} (p : X → Bool) (xs : List X) → ◌≡◌ {A = Option ℕ} None (first_place p xs) → position_or_len p xs ≡ length xs
absent p xs is =
    let most : position_or_len p xs ≤ length xs = prefix_len-le-length (λ x. not (p x)) xs in
    let short : nat_lt (position_or_len p xs) (length xs) ≡ false =
    elim (nat_lt (position_or_len p xs) (length xs)) as (λ b. ◌≡◌ {A = Option ℕ} None (cond b (Some (position_or_len p xs)) None) → b ≡ false)
    [ true ↦ λ e. cc | false ↦ λ e. refl ] is in
    grind (arith, tests)

-- an answer that is there, and one that isn't
pub some_there : {X : Type 0} (answer : Option X) → is_some answer ≡ true → (x : X) × (answer ≡ Some x)
some_there None some = cc
some_there (Some x) some = (x, refl)

pub none_there : {X : Type 0} (answer : Option X) → is_some answer ≡ false → answer ≡ None
none_there None none = refl
none_there (Some x) none = cc

pub none_left : {X : Type 0} (answer : Option X) → ((x : X) → answer ≡ Some x → ⊥) → answer ≡ None
none_left None other = refl
none_left (Some x) other = absurd (other x refl)

pub or_length : {X : Type 0} (p : X → Bool) (xs : List X) → unwrap_or (first_place p xs) (length xs) ≡ position_or_len p xs
or_length p xs =
    let most : position_or_len p xs ≤ length xs = prefix_len-le-length (λ x. not (p x)) xs in
    grind (arith, tests)

pub prefix_len-map : {X Y : Type 0} (f : X → Y) (p : Y → Bool) (xs : List X) → prefix_len p (map f xs) ≡ prefix_len (λ x. p (f x)) xs
prefix_len-map f p [] = refl
prefix_len-map f p (x ∷ xs) = ap (λ n. cond (p (f x)) (1 + n) 0) (prefix_len-map f p xs)
