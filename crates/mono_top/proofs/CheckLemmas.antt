-- A text that `check` answered is valid and accepted, or not valid and rejected: a bad line belongs to no certificate, a
-- text spells one certificate at most, and the verdict accepts exactly the valid ones.
use Rattle.std.proofs.Common.{◌≡◌, ◌≢◌, ◌⊎◌, ℕ, List, subst, refl, inl, inr}
use Rattle.theory.specs.Grounded.{Entries, grounded}
use Rattle.theory.specs.Certificate.{Certificate, IsValid}
use Rattle.model_text.specs.Model.{IsWellFormed}
use Rattle.model_text.specs.declared.scale.Scale.{Scale}
use Rattle.cert_text.proofs.OneText.{bad_line_has_none}
use Rattle.cert_text.proofs.OneCertificate.{one_certificate}
use Rattle.cert_check.specs.declared.judged.Judged.{Judged}
use Rattle.cert_check.specs.declared.judged.Judged.TheVariants.{Accepted}
use Rattle.cert_check.proofs.Verdicts.{accepted-is_valid}
use Rattle.mono_top.specs.Checks.{ChecksText, IsValidText, status_by}
use Rattle.mono_top.specs.declared.status.Status.{Status}
use Rattle.mono_top.specs.declared.status.Status.TheVariants.{Done, Rejected}

-- the status says whether the certificate was accepted
by_verdict : (verdict : Judged) (status : Status) → status ≡ status_by verdict
    → (status ≡ Done) × (verdict ≡ Accepted) ⊎ (status ≡ Rejected) × (verdict ≢ Accepted)
by_verdict Accepted status is = inl (is, refl)
by_verdict verdict status is = inr (is, λ e. cc)

-- what a text that was checked is: valid and done, or not valid and rejected
abbrev pub IsJudged : Scale → Entries → List ℕ → Status → Type 0
IsJudged s m bytes status = (status ≡ Done) × IsValidText s m bytes ⊎ (status ≡ Rejected) × (¬ IsValidText s m bytes)

pub judged : (s : Scale) (m : Entries) (bytes : List ℕ) (status : Status) (text : List ℕ) → IsWellFormed m → ChecksText s m bytes status text → IsJudged s m bytes status
judged s m bytes status text formed (inl (line, bad, is, said)) =
    inr (is, λ valid. bad_line_has_none s m bytes line valid.certificate bad valid.spelled)
judged s m bytes status text formed (inr (c, spelled, (verdict, judges, is, said))) =
    elim (by_verdict verdict status is) [
      | inl (done, accepted) ↦
          inl (done, record { certificate = c; spelled = spelled; valid = (accepted-is_valid (grounded m) c verdict spelled.fits judges).0 accepted })
      | inr (rejected, refused) ↦ inr (
        rejected,
        λ valid.
            let same = one_certificate s m bytes valid.certificate c formed valid.spelled spelled in
            refused ((accepted-is_valid (grounded m) c verdict spelled.fits judges).1 (subst (λ (d : Certificate). IsValid (grounded m) d) same valid.valid)),
      )
    ]

pub invalid_is_rejected : (s : Scale) (m : Entries) (bytes : List ℕ) (status : Status) → IsJudged s m bytes status → ¬ IsValidText s m bytes → status ≡ Rejected
invalid_is_rejected s m bytes status (inl (done, valid)) invalid = absurd (invalid valid)
invalid_is_rejected s m bytes status (inr (rejected, refused)) invalid = rejected

pub rejected_is_invalid : (s : Scale) (m : Entries) (bytes : List ℕ) (status : Status) → IsJudged s m bytes status → status ≡ Rejected → ¬ IsValidText s m bytes
rejected_is_invalid s m bytes status (inl (done, valid)) rejected = absurd cc
rejected_is_invalid s m bytes status (inr (is, refused)) rejected = refused
