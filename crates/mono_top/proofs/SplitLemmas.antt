-- A text that `pieces` answered is valid and has a flow, or is valid and has none, or is not valid: a bad line belongs to no
-- certificate, a text spells one certificate at most, and the verdict accepts exactly the valid ones.
use Rattle.std.proofs.Common.{◌≡◌, ◌≢◌, ◌⊎◌, ℕ, ℤ, List, Option, Some, None, subst, sym, ap, ◌∙◌, refl, inl, inr}
use Rattle.theory.specs.Grounded.{Entries, grounded}
use Rattle.theory.specs.Certificate.{Certificate, IsValid}
use Rattle.model_text.specs.Model.{IsWellFormed}
use Rattle.model_text.specs.declared.scale.Scale.{Scale}
use Rattle.cert_text.proofs.OneText.{bad_line_has_none}
use Rattle.cert_text.proofs.OneCertificate.{one_certificate}
use Rattle.cert_check.specs.declared.judged.Judged.{Judged}
use Rattle.cert_check.specs.declared.judged.Judged.TheVariants.{Accepted}
use Rattle.cert_check.proofs.Verdicts.{accepted-is_valid}
use Rattle.mono_top.specs.Checks.{IsValidText}
use Rattle.mono_top.specs.ShowsPieces.{SplitsText, ShowsBy, ShowsFlow, IsFlowlessText, flow_of}
use Rattle.mono_top.specs.declared.status.Status.{Status}
use Rattle.mono_top.specs.declared.status.Status.TheVariants.{Done, Rejected, NoFlow}

-- what a text is that was to be split
pub data IsSplitAs (s : Scale) (m : Entries) (bytes : List ℕ) (status : Status) : Type 0 where
  flows : status ≡ Done → IsValidText s m bytes → ¬ IsFlowlessText s m bytes → IsSplitAs s m bytes status
  flowless : status ≡ NoFlow → IsFlowlessText s m bytes → IsSplitAs s m bytes status
  invalid : status ≡ Rejected → ¬ IsValidText s m bytes → IsSplitAs s m bytes status

-- the status tells an accepted certificate by its flow
by_flow : (s : Scale) (m : Entries) (flow : Option (List ℤ)) (status : Status) (text : List ℕ) → ShowsFlow s m flow status text
    → (status ≡ Done) × (flow ≢ None) ⊎ (status ≡ NoFlow) × (flow ≡ None)
by_flow s m (Some x) status text shows = inl (shows.0, λ e. absurd cc)
by_flow s m None status text shows = inr (shows.0, refl)

by_verdict : (s : Scale) (m : Entries) (c : Certificate) (verdict : Judged) (status : Status) (text : List ℕ) → ShowsBy s m c verdict status text
    → (verdict ≡ Accepted) × ShowsFlow s m (flow_of c) status text ⊎ (verdict ≢ Accepted) × (status ≡ Rejected)
by_verdict s m c Accepted status text shows = inl (refl, shows)
by_verdict s m c verdict status text shows = inr (λ e. absurd cc, shows.0)

pub split_as : (s : Scale) (m : Entries) (bytes : List ℕ) (status : Status) (text : List ℕ) → IsWellFormed m → SplitsText s m bytes status text → IsSplitAs s m bytes status
split_as s m bytes status text formed (inl (line, bad, is, said)) =
    invalid is (λ valid. bad_line_has_none s m bytes line valid.certificate bad valid.spelled)
split_as s m bytes status text formed (inr (c, spelled, (verdict, judges, shows))) =
    let accepted = accepted-is_valid (grounded m) c verdict spelled.fits judges in
    let same : (valid : IsValidText s m bytes) → valid.certificate ≡ c = λ valid. one_certificate s m bytes valid.certificate c formed valid.spelled spelled in
    elim (by_verdict s m c verdict status text shows) [
      | inl (is, flow) ↦
          let valid : IsValidText s m bytes = record { certificate = c; spelled = spelled; valid = accepted.0 is } in
          elim (by_flow s m (flow_of c) status text flow) [
            | inl (done, some) ↦ flows done valid (λ none. some (ap flow_of (sym (same none.0)) ∙ none.1))
            | inr (is_none, none) ↦ flowless is_none (valid, none)
          ]
      | inr (refused, rejected) ↦
          invalid rejected (λ valid. refused (accepted.1 (subst (λ (d : Certificate). IsValid (grounded m) d) (same valid) valid.valid)))
    ]

pub invalid_is_rejected : (s : Scale) (m : Entries) (bytes : List ℕ) (status : Status) → IsSplitAs s m bytes status → ¬ IsValidText s m bytes → status ≡ Rejected
invalid_is_rejected s m bytes status (flows is valid some) not_valid = absurd (not_valid valid)
invalid_is_rejected s m bytes status (flowless is none) not_valid = absurd (not_valid none.0)
invalid_is_rejected s m bytes status (invalid is refused) not_valid = is

pub rejected_is_invalid : (s : Scale) (m : Entries) (bytes : List ℕ) (status : Status) → IsSplitAs s m bytes status → status ≡ Rejected → ¬ IsValidText s m bytes
rejected_is_invalid s m bytes status (flows is valid some) rejected = absurd cc
rejected_is_invalid s m bytes status (flowless is none) rejected = absurd cc
rejected_is_invalid s m bytes status (invalid is refused) rejected = refused

pub flowless_is_no_flow : (s : Scale) (m : Entries) (bytes : List ℕ) (status : Status) → IsSplitAs s m bytes status → IsFlowlessText s m bytes → status ≡ NoFlow
flowless_is_no_flow s m bytes status (flows is valid some) none = absurd (some none)
flowless_is_no_flow s m bytes status (flowless is has_none) none = is
flowless_is_no_flow s m bytes status (invalid is refused) none = absurd (refused none.0)

pub no_flow_is_flowless : (s : Scale) (m : Entries) (bytes : List ℕ) (status : Status) → IsSplitAs s m bytes status → status ≡ NoFlow → IsFlowlessText s m bytes
no_flow_is_flowless s m bytes status (flows is valid some) no_flow = absurd cc
no_flow_is_flowless s m bytes status (flowless is none) no_flow = none
no_flow_is_flowless s m bytes status (invalid is refused) no_flow = absurd cc
