-- Laws of the text of a table. No line before the first bad line has a fault, so there is one.
use Rattle.std.specs.Prelude.{◌≡◌, ℕ, ◌+◌, ◌<◌, Option, None, Some, length, refl}
use Rattle.std.proofs.Common.{arith, ◌∙◌, sym, ap}
use Rattle.model_text.specs.Lines.{text_lines}
use Rattle.transport_front.specs.TableText.{Spells, IsFirstFault, bad_line, no_words, fault_at}
use Rattle.transport_front.specs.TableTextLaws.{OneTableLaw, SpelledOrBadLaw, OneFaultLaw}

pub one_table : OneTableLaw
one_table text t s first second = first.is ∙ sym second.is

clash : {A : Type 0} (found : Option A) (a : A) → found ≡ None → found ≡ Some a → ⊥
clash found a none some = cc

pub spelled_or_bad : SpelledOrBadLaw
spelled_or_bad text t line word spells (bad_line {k} {word = w} here before is) = clash (fault_at (text_lines text) k) w (spells.no_fault k here) is
spelled_or_bad text t line word spells (no_words none before) = let yes = spells.begun in cc

pub one_fault : OneFaultLaw
one_fault text line others word other (bad_line {k} {word = w} here before is) (bad_line {k = k'} {word = w'} here' before' is') =
    let lines = text_lines text in
    let not_first : k < k' → ⊥ = λ less. clash (fault_at lines k) w (before' k less) is in
    let not_second : k' < k → ⊥ = λ less. clash (fault_at lines k') w' (before k' less) is' in
    let same : k ≡ k' = omega arith in
    (ap (λ n. n + 1) same, let there = sym is ∙ ap (fault_at lines) same ∙ is' in cc)
one_fault text line others word other (bad_line {k} {word = w} here before is) (no_words none all) = absurd (clash (fault_at (text_lines text) k) w (all k here) is)
one_fault text line others word other (no_words none all) (bad_line {k} {word = w} here before is) = absurd (clash (fault_at (text_lines text) k) w (all k here) is)
one_fault text line others word other (no_words none all) (no_words none' all') = (refl, refl)
