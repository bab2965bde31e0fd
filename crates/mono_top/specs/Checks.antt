-- What `check` answers to a model and the text of a second file, whoever wrote it: the line for the first bad line, or the
-- verdict on the certificate that the text spells.
use Rattle.std.specs.Prelude.{◌≡◌, ◌⊎◌, ℕ, List}
use Rattle.theory.specs.Grounded.{Entries, grounded}
use Rattle.theory.specs.Certificate.{Certificate, IsValid}
use Rattle.model_text.specs.declared.scale.Scale.{Scale}
use Rattle.cert_text.specs.BadLine.{IsTextOf, IsBadLine}
use Rattle.cert_check.specs.Verdict.{IsVerdict}
use Rattle.cert_check.specs.declared.judged.Judged.{Judged}
use Rattle.cert_check.specs.declared.judged.Judged.TheVariants.{Accepted}
use Rattle.mono_top.specs.VerdictLines.{bad_text_line, verdict_line}
use Rattle.mono_top.specs.declared.status.Status.{Status}
use Rattle.mono_top.specs.declared.status.Status.TheVariants.{Done, Rejected}

abbrev pub status_by : Judged → Status
status_by Accepted = Done
status_by verdict = Rejected

-- the verdict on a certificate
abbrev pub ChecksCertificate : Scale → Entries → Certificate → Status → List ℕ → Type 0
ChecksCertificate s m c status text =
    (verdict : Judged) × IsVerdict (grounded m) c verdict × (status ≡ status_by verdict) × (text ≡ verdict_line s m c verdict)

abbrev pub ChecksText : Scale → Entries → List ℕ → Status → List ℕ → Type 0
ChecksText s m bytes status text =
    ((line : ℕ) × IsBadLine s m bytes line × (status ≡ Rejected) × (text ≡ bad_text_line line))
    ⊎ ((c : Certificate) × IsTextOf s m bytes c × ChecksCertificate s m c status text)

-- the text is that of a certificate that is valid for the model
pub record IsValidText (s : Scale) (m : Entries) (text : List ℕ) : Type 0 where
  pub certificate : Certificate
  pub spelled : IsTextOf s m text certificate
  pub valid : IsValid (grounded m) certificate
