-- Texts one after the other, and the names of nodes by their positions.
use Rattle.std.proofs.Common.{◌≡◌, ℕ, ◌+◌, List, ◌++◌, refl, add-one, append_assoc}
use Rattle.cert_text.specs.CertificateText.{texts_below}

pub texts_next : (i : ℕ) (text : ℕ → List ℕ) → texts_below (i + 1) text ≡ texts_below i text ++ text i
texts_next i text = rw add-one refl

-- what stands after the texts below i and the text of i
pub appended : (i : ℕ) (text : ℕ → List ℕ) (before now after line : List ℕ)
    → now ≡ before ++ texts_below i text → after ≡ now ++ line → line ≡ text i → after ≡ before ++ texts_below (i + 1) text
appended i text before now after line was is same =
    rw (texts_next i text, ← append_assoc before (texts_below i text) (text i), ← was, ← same) is
