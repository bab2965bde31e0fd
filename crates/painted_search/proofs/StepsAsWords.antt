-- Steps and numbers as words, and back.
use Rattle.std.proofs.Common.{◌≡◌, ℕ, suc, ◌+◌, ◌%◌, ◌<◌, ◌^◌, ℤ, pos, Bool, true, false, Option, Some, List, [], ◌∷◌, ◌++◌, map, set, replicate, reverse, unwrap_or, refl, sym, ap, ◌∙◌, arith}
use Rattle.std.proofs.lemmas.List.{map-set, map-append, reverse-append}
use lib.LanesLaws.{map-replicate}
use Rattle.theory.specs.declared.network.ArcId.{ArcId}
use Rattle.theory.specs.declared.network.Step.{Step}
use Rattle.painted_search.specs.StepWords.{word_of, label_of, step_of, index_of}

same-number : (n : ℕ) → n < 2 ^ 32 → n % 2 ^ 32 ≡ n
same-number n small = omega arith

by_direction : (arc : ArcId) (forward : Bool) → arc.0 < 2 ^ 32
    → label_of (word_of (record { arc = arc; forward = forward })) ≡ Some (record { arc = arc; forward = forward })
by_direction arc true small =
    let place : arc.0 + 1 ≡ suc arc.0 = omega arith in
    ap (λ n. label_of (pos n)) place
    ∙ ap (λ n. Some (record { arc = record { 0 = n }; forward = true })) (same-number arc.0 small)
by_direction arc false small = ap (λ n. Some (record { arc = record { 0 = n }; forward = false })) (same-number arc.0 small)

pub label-word : (s : Step) → s.arc.0 < 2 ^ 32 → label_of (word_of s) ≡ Some s
label-word s small = by_direction s.arc s.forward small

pub index-word : (n : ℕ) → n < 2 ^ 32 → index_of (pos n) ≡ n
index-word n small = same-number n small

-- a step written as a word to a list of labels
pub labels-set : (words : List ℤ) (i : ℕ) (s : Step) → s.arc.0 < 2 ^ 32
    → map label_of (set words i (word_of s)) ≡ set (map label_of words) i (Some s)
labels-set words i s small = map-set label_of words i (word_of s) ∙ ap (set (map label_of words) i) (label-word s small)

pub queue-set : (words : List ℤ) (k n : ℕ) → n < 2 ^ 32 → map index_of (set words k (pos n)) ≡ set (map index_of words) k n
queue-set words k n small = map-set index_of words k (pos n) ∙ ap (set (map index_of words) k) (index-word n small)

pub map-zeros : {A : Type 0} (f : ℤ → A) (n : ℕ) → map f (replicate n (pos 0)) ≡ replicate n (f (pos 0))
map-zeros f n = map-replicate f n (pos 0)

pub step-word : (s : Step) → s.arc.0 < 2 ^ 32 → step_of (word_of s) ≡ s
step-word s small = ap (λ (t : Option Step). unwrap_or t (record { arc = record { 0 = 0 }; forward = true })) (label-word s small)

pub map-reverse : {A B : Type 0} (f : A → B) (xs : List A) → map f (reverse xs) ≡ reverse (map f xs)
map-reverse f [] = refl
map-reverse f (x ∷ xs) =
    ap (map f) (reverse-append (x ∷ []) xs)
    ∙ map-append f (reverse xs) (x ∷ [])
    ∙ ap (λ ys. ys ++ f x ∷ []) (map-reverse f xs)
    ∙ sym (reverse-append (f x ∷ []) (map f xs))
