-- What `pieces` answers to a model and the text of a second file, whoever wrote it: the pieces of the flow of the valid
-- certificate that the text spells, or why there are none.
use Rattle.std.specs.Prelude.{◌≡◌, ◌⊎◌, ℕ, ◌+◌, ◌<◌, ℤ, List, [], ◌∷◌, ◌++◌, length, codes, Option, Some, None}
use Rattle.theory.specs.Network.{«at»}
use Rattle.theory.specs.Circuit.{step}
use Rattle.theory.specs.Grounded.{Entries, grounded}
use Rattle.theory.specs.Certificate.{Certificate}
use Rattle.theory.specs.Certificate.Certificate.{optimal, cut, circuit}
use Rattle.model_text.specs.Printed.{printed_fixed, printed_line}
use Rattle.model_text.specs.declared.scale.Scale.{Scale}
use Rattle.cert_text.specs.BadLine.{IsTextOf, IsBadLine}
use Rattle.cert_text.specs.CertificateText.{texts_below, step_line}
use Rattle.cert_check.specs.Verdict.{IsVerdict}
use Rattle.cert_check.specs.declared.judged.Judged.{Judged}
use Rattle.cert_check.specs.declared.judged.Judged.TheVariants.{Accepted}
use Rattle.flow_pieces.specs.Pieces.{FlowPiece, ArePieces, piece_at}
use Rattle.mono_top.specs.Checks.{IsValidText}
use Rattle.mono_top.specs.Lines.{no_flow_line}
use Rattle.mono_top.specs.Reports.{count_line}
use Rattle.mono_top.specs.VerdictLines.{bad_text_line, verdict_line}
use Rattle.mono_top.specs.declared.status.Status.{Status}
use Rattle.mono_top.specs.declared.status.Status.TheVariants.{Done, Rejected, NoFlow}

-- ---- the text

-- a weight is a flow
abbrev pub weight_line : Scale → ℤ → List ℕ
weight_line s weight = printed_line (codes "piece") (printed_fixed s.flow weight ∷ [])

abbrev pub steps_text : Entries → FlowPiece → ℕ → List ℕ
steps_text m p count = texts_below count (λ i. step_line m (step p.walk i))

-- the weight, and the steps in order
abbrev pub piece_text : Scale → Entries → FlowPiece → List ℕ
piece_text s m p = weight_line s p.weight ++ steps_text m p (length p.walk)

abbrev pub pieces_text : Scale → Entries → List FlowPiece → List ℕ
pieces_text s m ps = count_line (codes "pieces") (length ps) ++ texts_below (length ps) (λ k. piece_text s m (piece_at ps k))

-- every step is over an arc of the grounded network
abbrev pub AreThere : Entries → List FlowPiece → Type 0
AreThere m ps = (k i : ℕ) → k < length ps → i < length (piece_at ps k).walk
    → (step (piece_at ps k).walk i).arc.0 < length m.nodes + length m.arcs

-- ---- the answer

-- a cut has no flow
abbrev pub flow_of : Certificate → Option (List ℤ)
flow_of (optimal x u cost value) = Some x
flow_of (cut side capacity) = None
flow_of (circuit x walk span) = Some x

-- the text of pieces of the flow
abbrev pub IsSplit : Scale → Entries → List ℤ → List ℕ → Type 0
IsSplit s m x text = (ps : List FlowPiece) × ArePieces (grounded m) («at» x) ps × (text ≡ pieces_text s m ps)

abbrev pub ShowsFlow : Scale → Entries → Option (List ℤ) → Status → List ℕ → Type 0
ShowsFlow s m (Some x) status text = (status ≡ Done) × IsSplit s m x text
ShowsFlow s m None status text = (status ≡ NoFlow) × (text ≡ no_flow_line)

-- by the verdict on the certificate
abbrev pub ShowsBy : Scale → Entries → Certificate → Judged → Status → List ℕ → Type 0
ShowsBy s m c Accepted status text = ShowsFlow s m (flow_of c) status text
ShowsBy s m c verdict status text = (status ≡ Rejected) × (text ≡ verdict_line s m c verdict)

abbrev pub SplitsCertificate : Scale → Entries → Certificate → Status → List ℕ → Type 0
SplitsCertificate s m c status text = (verdict : Judged) × IsVerdict (grounded m) c verdict × ShowsBy s m c verdict status text

abbrev pub SplitsText : Scale → Entries → List ℕ → Status → List ℕ → Type 0
SplitsText s m bytes status text =
    ((line : ℕ) × IsBadLine s m bytes line × (status ≡ Rejected) × (text ≡ bad_text_line line))
    ⊎ ((c : Certificate) × IsTextOf s m bytes c × SplitsCertificate s m c status text)

-- the text is that of a valid certificate in which there is no flow
abbrev pub IsFlowlessText : Scale → Entries → List ℕ → Type 0
IsFlowlessText s m text = (valid : IsValidText s m text) × (flow_of valid.certificate ≡ None)
