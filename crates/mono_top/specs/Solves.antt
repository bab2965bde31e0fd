-- What `solve` answers to a model.
use Rattle.std.specs.Prelude.{◌≡◌, ℕ, List}
use Rattle.theory.specs.Grounded.{Entries, grounded}
use Rattle.theory.specs.Certificate.{Certificate, IsValid}
use Rattle.theory.specs.Certificate.Certificate.{optimal, cut, circuit}
use Rattle.model_text.specs.declared.scale.Scale.{Scale}
use Rattle.cert_text.specs.CertificateText.{certificate_text}
use Rattle.mono_top.specs.declared.status.Status.{Status}
use Rattle.mono_top.specs.declared.status.Status.TheVariants.{Done, Cut, Circuit}

-- the kind of a certificate as a status
abbrev pub status_of : Certificate → Status
status_of (optimal x u cost value) = Done
status_of (cut side capacity) = Cut
status_of (circuit x walk span) = Circuit

-- the text of a certificate that is valid for the model
pub record IsCertified (s : Scale) (m : Entries) (status : Status) (text : List ℕ) : Type 0 where
  pub certificate : Certificate
  pub valid : IsValid (grounded m) certificate
  pub kind : status ≡ status_of certificate
  pub is : text ≡ certificate_text s m certificate
