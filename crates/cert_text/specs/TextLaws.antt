-- What holds of the texts of certificates and of first bad lines.
use Rattle.std.specs.Prelude.{◌≡◌, ℕ, List}
use Rattle.theory.specs.Grounded.{Entries}
use Rattle.model_text.specs.declared.scale.Scale.{Scale}
use Rattle.theory.specs.Certificate.{Certificate}
use Rattle.model_text.specs.Model.{IsWellFormed}
use Rattle.cert_text.specs.BadLine.{IsTextOf, IsBadLine}

-- a text has at most one certificate
abbrev pub OneCertificateLaw : Type 0
OneCertificateLaw = (s : Scale) (m : Entries) (text : List ℕ) (c d : Certificate) → IsWellFormed m → IsTextOf s m text c → IsTextOf s m text d → c ≡ d

-- a text with a bad line has none
abbrev pub NoCertificateLaw : Type 0
NoCertificateLaw = (s : Scale) (m : Entries) (text : List ℕ) (line : ℕ) (c : Certificate) → IsBadLine s m text line → ¬ IsTextOf s m text c

-- a text has at most one first bad line
abbrev pub OneBadLineLaw : Type 0
OneBadLineLaw = (s : Scale) (m : Entries) (text : List ℕ) (line other : ℕ) → IsBadLine s m text line → IsBadLine s m text other → line ≡ other
