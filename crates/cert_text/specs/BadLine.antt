-- The first bad line of a text that is no certificate's.
use Rattle.std.specs.Prelude.{◌≡◌, ℕ, ◌-◌, ◌≤◌, ◌==◌, if◌then◌else◌, List, [], ◌∷◌, take}
use Rattle.theory.specs.Grounded.{Entries, grounded}
use Rattle.model_text.specs.declared.scale.Scale.{Scale}
use Rattle.theory.specs.Certificate.{Certificate, Fits}
use Rattle.cert_text.specs.CertificateText.{certificate_text}
use Rattle.cert_text.specs.declared.read.CertFault.{CertFault}
use Rattle.cert_text.specs.declared.read.CertFault.TheVariants.{BadText, NoMemory}

-- a byte before the first of the pieces
abbrev pub onto_first : ℕ → List (List ℕ) → List (List ℕ)
onto_first b [] = (b ∷ []) ∷ []
onto_first b (piece ∷ pieces) = (b ∷ piece) ∷ pieces

-- The pieces of a text: its lines, each with its LF (10), and what stands behind the last LF. That is nothing in a text
-- that ends with LF, as each certificate's does, and a line that no certificate's text has in any other.
abbrev pub pieces : List ℕ → List (List ℕ)
pieces [] = [] ∷ []
pieces (b ∷ bs) = if b == 10 then (10 ∷ []) ∷ pieces bs else onto_first b (pieces bs)

-- the text of some certificate that fits begins with the first k pieces of this text
pub record IsRightFor (s : Scale) (m : Entries) (text : List ℕ) (k : ℕ) : Type 0 where
  pub certificate : Certificate
  pub fits : Fits (grounded m) certificate
  pub same : take k (pieces (certificate_text s m certificate)) ≡ take k (pieces text)

-- the first line, from 1, with which the text is right for no certificate; the one behind the last where the text ends too early
pub record IsBadLine (s : Scale) (m : Entries) (text : List ℕ) (line : ℕ) : Type 0 where
  pub from_one : 1 ≤ line
  pub right_before : IsRightFor s m text (line - 1)
  pub wrong_with : ¬ IsRightFor s m text line

-- the text is this certificate's, which fits
pub record IsTextOf (s : Scale) (m : Entries) (text : List ℕ) (c : Certificate) : Type 0 where
  pub fits : Fits (grounded m) c
  pub spelled : certificate_text s m c ≡ text

abbrev pub IsFaultOf : Scale → Entries → List ℕ → CertFault → Type 0
IsFaultOf s m text (BadText line) = IsBadLine s m text line
IsFaultOf s m text NoMemory = Unit {0}
