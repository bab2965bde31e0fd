-- Values in a row, and what holds of each of them.
use Rattle.std.proofs.Common.{◌≡◌, ◌≢◌, ℕ, zero, suc, ◌+◌, ◌<◌, true, false, List, [], ◌∷◌, ◌++◌, map, length, get_or, None, refl, sym, ◌∙◌, add-one, length-append, arith, bytes_eq}
use Rattle.std.specs.Prelude.{nat_lt}
use Rattle.std.specs.List.{position_or_len}
use Rattle.std.specs.Cmp.Lexicographic.{bytes_decides}
use Rattle.std.proofs.lemmas.Bool.Decides.{nat_tests}
use Rattle.std.proofs.lemmas.List.{get_or_append_left}
use Rattle.theory.specs.Sums.{Each}
use Rattle.model_text.specs.Model.{place_of}
use Rattle.trial_model.specs.Trial.{values_below}

pub values-none : {A : Type 0} (f : ℕ → A) → values_below 0 f ≡ []
unfolding values_below
values-none f = refl

pub values-more : {A : Type 0} (n : ℕ) (f : ℕ → A) → values_below (n + 1) f ≡ values_below n f ++ f n ∷ []
unfolding values_below
values-more n f = rw add-one refl

pub length-values : {A : Type 0} (n : ℕ) (f : ℕ → A) → length (values_below n f) ≡ n
unfolding values_below
length-values zero f = refl
length-values (suc n) f =
    let so_far : length (values_below n f) ≡ n = length-values n f in
    let parts : length (values_below n f ++ f n ∷ []) ≡ length (values_below n f) + 1 = length-append (values_below n f) (f n ∷ []) in
    omega (arith, so_far, parts)

pub first-value : {A : Type 0} (n : ℕ) (f : ℕ → A) (d : A) → get_or (values_below (suc n) f) 0 d ≡ f 0
unfolding values_below
first-value zero f d = refl
first-value (suc n) f d =
    let some : 0 < length (values_below (suc n) f) = omega (arith, length-values (suc n) f) in
    get_or_append_left (values_below (suc n) f) (f (suc n) ∷ []) d 0 some ∙ first-value n f d

-- ---- what holds of each

pub each-append : {A : Type 0} (P : A → Type 0) (xs ys : List A) → Each P xs → Each P ys → Each P (xs ++ ys)
each-append P [] ys first second = second
each-append P (x ∷ xs) ys first second = (first.0, each-append P xs ys first.1 second)

pub each-map : {A B : Type 0} (P : B → Type 0) (g : A → B) (xs : List A) → Each (λ x. P (g x)) xs → Each P (map g xs)
each-map P g [] each = tt
each-map P g (x ∷ xs) each = (each.0, each-map P g xs each.1)

pub each-values : {A : Type 0} (P : A → Type 0) (n : ℕ) (f : ℕ → A) → ((k : ℕ) → k < n → P (f k)) → Each P (values_below n f)
unfolding values_below
each-values P zero f each = tt
each-values P (suc n) f each =
    each-append P (values_below n f) (f n ∷ []) (each-values P n f (λ k below. each k (omega arith))) (each n (omega arith), tt)

-- ---- a name that is none of some names has no place among them

other_bytes : (name other : List ℕ) → other ≢ name → bytes_eq name other ≡ false
other_bytes name other differ =
    elim (bytes_eq name other) as (λ b. bytes_eq name other ≡ b → b ≡ false)
    [ true ↦ λ e. absurd (differ (sym ((bytes_decides name other).0 e))) | false ↦ λ e. refl ] refl

passes_all : (name : List ℕ) (names : List (List ℕ)) → Each (λ other. other ≢ name) names → position_or_len (bytes_eq name) names ≡ length names
passes_all name [] each = refl
passes_all name (other ∷ names) each =
    let so_far : position_or_len (bytes_eq name) names ≡ length names = passes_all name names each.1 in
    rw (other_bytes name other each.0) (omega (arith, so_far))

pub no_place : (name : List ℕ) (names : List (List ℕ)) → Each (λ other. other ≢ name) names → place_of names name ≡ None
no_place name names each =
    let past : nat_lt (length names) (length names) ≡ false = grind (arith, nat_tests) in
    rw (passes_all name names each, past) refl
