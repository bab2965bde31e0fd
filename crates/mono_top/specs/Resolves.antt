-- What `resolve` answers to a model and the text of a second file: the line for the first bad line of a text that spells no changes of the
-- model; or a line for the model as it was and one after each change, each of a certificate that is valid for the network as it is then, and
-- behind them the text of the last certificate.
use Rattle.std.specs.Prelude.{◌≡◌, ◌⊎◌, ℕ, ◌+◌, List, [], ◌∷◌, ◌++◌, pos, codes}
use Rattle.theory.specs.Network.{Network}
use Rattle.theory.specs.Grounded.{Entries, grounded}
use Rattle.theory.specs.Certificate.{Certificate, IsValid}
use Rattle.model_text.specs.Printed.{printed_fixed, printed_line, printed_number}
use Rattle.model_text.specs.declared.fault.FaultWord.{FaultWord}
use Rattle.model_text.specs.declared.scale.Scale.{Scale}
use Rattle.cert_text.specs.CertificateText.{certificate_text}
use Rattle.ground_net.specs.Ground.{replaced}
use Rattle.warm_solve.specs.ChangesText.{Change, Spells, IsFirstFault}
use Rattle.mono_top.specs.Lines.{changes_line}
use Rattle.mono_top.specs.Reports.{number_of}
use Rattle.mono_top.specs.Solves.{status_of}
use Rattle.mono_top.specs.VerdictLines.{kind_word, number_decimals}
use Rattle.mono_top.specs.declared.status.Status.{Status}
use Rattle.mono_top.specs.declared.status.Status.TheVariants.{ChangesRefused}

-- the network with one change, and with all of them in turn
abbrev pub changed : Network → Change → Network
changed net change = replaced net change.arc change.curve

abbrev pub all_changed : Network → List Change → Network
all_changed net [] = net
all_changed net (change ∷ changes) = all_changed (changed net change) changes

-- so many changes were made; the kind and the number of the certificate
abbrev pub state_line : Scale → ℕ → Certificate → List ℕ
state_line s count c =
    printed_line (codes "state") (printed_number (pos count) ∷ kind_word c ∷ printed_fixed (number_decimals s c) (number_of c) ∷ [])

-- from a network on, to which so many changes have led
abbrev pub States : Scale → Entries → ℕ → Network → List Change → Status → List ℕ → Type 0
States s m count net [] status text =
    (c : Certificate) × IsValid net c × (status ≡ status_of c) × (text ≡ state_line s count c ++ certificate_text s m c)
States s m count net (change ∷ changes) status text =
    (c : Certificate) × IsValid net c
    × ((rest : List ℕ) × (text ≡ state_line s count c ++ rest) × States s m (count + 1) (changed net change) changes status rest)

abbrev pub Resolves : Scale → Entries → List Change → Status → List ℕ → Type 0
Resolves s m changes status text = States s m 0 (grounded m) changes status text

abbrev pub ResolvesText : Scale → Entries → List ℕ → Status → List ℕ → Type 0
ResolvesText s m bytes status text =
    ((line : ℕ) × (word : FaultWord) × IsFirstFault s m bytes line word × (status ≡ ChangesRefused line word) × (text ≡ changes_line line word))
    ⊎ ((changes : List Change) × Spells s m bytes changes × Resolves s m changes status text)
