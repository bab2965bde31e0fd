-- Laws of the model text. The first bad line is found by going over the lines; no line before it has a fault, so there is one.
use Rattle.std.specs.Prelude.{◌≡◌, ℕ, zero, suc, ◌+◌, ◌<◌, true, Option, None, Some, ◌⊎◌, List, length, refl}
use Rattle.std.proofs.Common.{arith, ◌∙◌, sym, ap, inl, inr, below_more, add-one}
use Rattle.theory.specs.Grounded.{Entries}
use Rattle.model_text.specs.declared.fault.FaultWord.{FaultWord}
use Rattle.model_text.specs.Lines.{text_lines}
use Rattle.model_text.specs.ModelText.{Spells, IsFirstFault, bad_line, no_front, NoFaultBefore, fault_at, Progress, nothing, front, made, is_made, progress_of}
use Rattle.model_text.specs.declared.scale.Scale.{Scale}
use Rattle.model_text.specs.ModelTextLaws.{OneModelLaw, SpelledOrBadLaw, OneFaultLaw, DecidedLaw}

pub one_model : OneModelLaw
one_model text s t m n first second = let same : made s m ≡ made t n = sym first.is ∙ second.is in (cc, cc)

clash : {A : Type 0} (found : Option A) (a : A) → found ≡ None → found ≡ Some a → ⊥
clash found a none some = cc

pub spelled_or_bad : SpelledOrBadLaw
spelled_or_bad text s m line word spells (bad_line {k} {word = w} here before is) = clash (fault_at (text_lines text) k) w (spells.no_fault k here) is
spelled_or_bad text s m line word spells (no_front none before) = let yes : is_made (progress_of (text_lines text)) ≡ true = ap is_made spells.is in cc

pub one_fault : OneFaultLaw
one_fault text line others word other (bad_line {k} {word = w} here before is) (bad_line {k = k'} {word = w'} here' before' is') =
    let lines = text_lines text in
    let not_first : k < k' → ⊥ = λ less. clash (fault_at lines k) w (before' k less) is in
    let not_second : k' < k → ⊥ = λ less. clash (fault_at lines k') w' (before k' less) is' in
    let same : k ≡ k' = omega arith in
    (ap (λ n. n + 1) same, let there = sym is ∙ ap (fault_at lines) same ∙ is' in cc)
one_fault text line others word other (bad_line {k} {word = w} here before is) (no_front none all) = absurd (clash (fault_at (text_lines text) k) w (all k here) is)
one_fault text line others word other (no_front none all) (bad_line {k} {word = w} here before is) = absurd (clash (fault_at (text_lines text) k) w (all k here) is)
one_fault text line others word other (no_front none all) (no_front none' all') = (refl, refl)

-- the first of n lines with a fault
record HasFault (lines : List (List ℕ)) (n : ℕ) : Type 0 where
  place : ℕ
  word : FaultWord
  within : place < n
  before : NoFaultBefore lines place
  is : fault_at lines place ≡ Some word

first-of : (lines : List (List ℕ)) (n : ℕ) → NoFaultBefore lines n ⊎ HasFault lines n
first-of lines zero = inl (λ k below. absurd (omega arith))
first-of lines (suc n) =
    elim (first-of lines n) [
      | inl before ↦ by before (fault_at lines n) refl
      | inr has ↦ inr (record { place = has.place; word = has.word; within = omega (arith, has.within); before = has.before; is = has.is })
    ]
  where
    by : NoFaultBefore lines n → (found : Option FaultWord) → fault_at lines n ≡ found → NoFaultBefore lines (suc n) ⊎ HasFault lines (suc n)
    by before None none = inl (rw (← add-one) (below_more _ _ before none))
    by before (Some word) is = inr (record { place = n; word = word; within = omega arith; before = before; is = is })

pub decided : DecidedLaw
decided text =
    elim (first-of (text_lines text) (length (text_lines text))) [
      | inl before ↦ by before (progress_of (text_lines text)) refl
      | inr has ↦ inr (has.place + 1, (has.word, bad_line has.within has.before has.is))
    ]
  where
    by : NoFaultBefore (text_lines text) (length (text_lines text)) → (progress : Progress) → progress_of (text_lines text) ≡ progress
        → ((s : Scale) × ((m : Entries) × Spells text s m)) ⊎ ((line : ℕ) × ((word : FaultWord) × IsFirstFault text line word))
    by before nothing is = inr (length (text_lines text) + 1, (_, no_front (ap is_made is) before))
    by before front is = inr (length (text_lines text) + 1, (_, no_front (ap is_made is) before))
    by before (made s m) is = inl (s, (m, record { no_fault = before; is = is }))
