-- The last word of a line by the place of the space before it.
use Rattle.std.proofs.Common.{refl, ◌≡◌, ◌≢◌, ℕ, zero, suc, ◌+◌, ◌-◌, ◌<◌, inl, inr, List, [], ◌∷◌, ◌++◌, length, get_or, take, drop, sym, ap, ◌∙◌, arith, nat_lt, length-append}
use Rattle.std.specs.List.{list_all}
use Rattle.std.proofs.lemmas.Bool.{ltb-true, and_parts, cases_order}
use Rattle.std.proofs.Math.Seq.{get_or-append_seam, take-append_seam, drop-append-add}
use Rattle.std.proofs.lemmas.List.{get_or-append-add}
use Rattle.cert_text.specs.Candidate.{IsPlain}

-- no byte of a plain word is a space
above_space : (word : List ℕ) → IsPlain word → (k : ℕ) → k < length word → 32 < get_or word k 0
above_space [] plain k here = absurd (omega arith)
above_space (b ∷ bs) plain zero here = ltb-true 32 b (and_parts (nat_lt 32 b) (list_all (nat_lt 32) bs) plain).0
above_space (b ∷ bs) plain (suc k) here = above_space bs (and_parts (nat_lt 32 b) (list_all (nat_lt 32) bs) plain).1 k (omega arith)

module _ (bytes front word : List ℕ) (plain : IsPlain word) (is : bytes ≡ front ++ 32 ∷ word) where
  seam : get_or bytes (length front) 0 ≡ 32
  seam = rw is (get_or-append_seam front 32 word 0)

  longer : length front < length bytes
  longer = omega (arith, ap length is, length-append front (32 ∷ word))

  -- no space stands behind the one before the word
  none_behind : (place : ℕ) → length front < place → place < length bytes → get_or bytes place 0 ≢ 32
  none_behind place above here space = in_word (place - length front - 1) (omega arith)
    where
      in_word : (j : ℕ) → place ≡ length front + suc j → ⊥
      in_word j e =
          let there : j < length word = omega (arith, ap length is, length-append front (32 ∷ word)) in
          let byte : get_or word j 0 ≡ 32 = sym (get_or-append-add front (32 ∷ word) (suc j) 0) ∙ ap (λ l. get_or l (length front + suc j) 0) (sym is) ∙ ap (λ n. get_or bytes n 0) (sym e) ∙ space in
          omega (arith, above_space word plain j there)

  -- the last space of the bytes is the one before the word
  pub space_is : (place : ℕ) → place < length bytes → get_or bytes place 0 ≡ 32 → ((k : ℕ) → place < k → k < length bytes → get_or bytes k 0 ≢ 32)
      → place ≡ length front
  space_is place here space none = elim (cases_order place (length front)) [
    | inl same ↦ same
    | inr (inl below) ↦ absurd (none (length front) below longer seam)
    | inr (inr above) ↦ absurd (none_behind place above here space)
  ]

  pub word_cut : (take (length front) bytes ≡ front) × (drop (length front + 1) bytes ≡ word)
  word_cut = (rw is (take-append_seam front (32 ∷ word)), rw is (drop-append-add front (32 ∷ word) 1))

  pub space_there : ((k : ℕ) → k < length bytes → get_or bytes k 0 ≢ 32) → ⊥
  space_there none = none (length front) longer seam

-- the last word and what stands before it are the only ones
pub one_split : (front other word last : List ℕ) → IsPlain word → IsPlain last → front ++ 32 ∷ word ≡ other ++ 32 ∷ last → (front ≡ other) × (word ≡ last)
one_split front other word last plain last_plain same =
    let bytes = front ++ 32 ∷ word in
    let place = space_is bytes front word plain refl (length other) (longer bytes other last last_plain same) (seam bytes other last last_plain same) (none_behind bytes other last last_plain same) in
    let mine = word_cut bytes front word plain refl in
    let theirs = word_cut bytes other last last_plain same in
    (sym mine.0 ∙ ap (λ n. take n bytes) (sym place) ∙ theirs.0, sym mine.1 ∙ ap (λ n. drop (n + 1) bytes) (sym place) ∙ theirs.1)
