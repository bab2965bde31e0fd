-- What `trial` answers: how large the number's model is, and the kind and the number of a certificate that is valid for it.
use Rattle.std.specs.Prelude.{◌≡◌, ℕ, ℤ, pos, List, [], ◌∷◌, ◌++◌, length, codes}
use Rattle.theory.specs.Grounded.{Entries, grounded}
use Rattle.theory.specs.Certificate.{Certificate, IsValid}
use Rattle.theory.specs.Certificate.Certificate.{optimal, cut, circuit}
use Rattle.model_text.specs.Printed.{printed_line, printed_number}
use Rattle.mono_top.specs.VerdictLines.{kind_word}
use Rattle.mono_top.specs.declared.status.Status.{Status}
use Rattle.mono_top.specs.declared.status.Status.TheVariants.{Done}

-- the value, the capacity or the span
abbrev pub number_of : Certificate → ℤ
number_of (optimal x u cost value) = value
number_of (cut side capacity) = capacity
number_of (circuit x walk span) = span

abbrev pub count_line : List ℕ → ℕ → List ℕ
count_line keyword count = printed_line keyword (printed_number (pos count) ∷ [])

abbrev pub report_text : Entries → Certificate → List ℕ
report_text m c =
    count_line (codes "nodes") (length m.nodes) ++ count_line (codes "arcs") (length m.arcs)
    ++ printed_line (codes "kind") (kind_word c ∷ []) ++ printed_line (codes "value") (printed_number (number_of c) ∷ [])

pub record IsReported (m : Entries) (status : Status) (text : List ℕ) : Type 0 where
  pub certificate : Certificate
  pub valid : IsValid (grounded m) certificate
  pub done : status ≡ Done
  pub is : text ≡ report_text m certificate
