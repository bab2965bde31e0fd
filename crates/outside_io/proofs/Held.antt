-- A file whose bytes are all left to be read is read whole, or found too long.
use Rattle.std.proofs.Common.{◌≡◌, ℕ, ◌+◌, ◌<◌, ◌⊎◌, List, [], ◌++◌, length, Option, Some, None, arith, ap, sym, ◌∙◌, refl, inl, inr, length-append, unwrap_or}
use Rattle.std.specs.Io.KnownBytes.{prepend_known}
use Rattle.outside_io.specs.Files.{Files, file_of}
use Rattle.outside_io.specs.Whole.{IsTooLong, ReadsWhole, ReadsRest, AnswersWithin}
use Rattle.outside_io.specs.declared.whole.ReadAns.{ReadAns}
use Rattle.outside_io.specs.declared.whole.ReadAns.TheVariants.{Bytes, Missing, TooLong, Fault, NoMemory}

value : {a b : List ℕ} → Some a ≡ Some b → a ≡ b
value e = ap (λ o. unwrap_or o []) e

longer : (bytes front : List ℕ) (most : ℕ) (new : Option (List ℕ)) → length front ≡ most + 1 → Some bytes ≡ prepend_known front new → most < length bytes
longer bytes front most None long e = absurd (cc e)
longer bytes front most (Some left) long e =
    let whole : bytes ≡ front ++ left = value e in
    omega (arith, long, ap length whole, length-append front left)

pub whole_of_rest : (files : Files) (name bytes : List ℕ) (most : ℕ) (answer : ReadAns) (old new : Option (List ℕ))
    → file_of files name ≡ Some bytes → old ≡ Some bytes → ReadsRest answer most old new → ReadsWhole files name most answer
whole_of_rest files name bytes most (Bytes text) old new held left read = held ∙ ap Some (read bytes left)
whole_of_rest files name bytes most Missing old new held left read = absurd read
whole_of_rest files name bytes most TooLong old new held left read = (bytes, held, longer bytes read.0 most new read.1 (sym left ∙ read.2))
whole_of_rest files name bytes most Fault old new held left read = tt
whole_of_rest files name bytes most NoMemory old new held left read = (bytes, held)

pub long_answers : (files : Files) (name : List ℕ) (most : ℕ) (answer : ReadAns) (R : Type 0)
    → IsTooLong files name most → ReadsWhole files name most answer → AnswersWithin answer most → (answer ≡ Fault → R)
    → (answer ≡ TooLong) ⊎ (answer ≡ NoMemory) ⊎ R
long_answers files name most (Bytes text) R long whole within fault =
    absurd (omega (arith, long.2, within, ap length (value (sym long.1 ∙ whole))))
long_answers files name most Missing R long whole within fault = absurd (cc (sym long.1 ∙ whole))
long_answers files name most TooLong R long whole within fault = inl refl
long_answers files name most Fault R long whole within fault = inr (inr (fault refl))
long_answers files name most NoMemory R long whole within fault = inr (inl refl)
