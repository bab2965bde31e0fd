-- The lines of `check`.
use Rattle.std.specs.Prelude.{ℕ, ◌+◌, ◌<◌, ◌≤◌, pos, List, [], ◌∷◌, length, codes}
use Rattle.theory.specs.Grounded.{Entries, node_name, arc_name}
use Rattle.theory.specs.Certificate.{Certificate}
use Rattle.theory.specs.Certificate.Certificate.{optimal, cut, circuit}
use Rattle.model_text.specs.Printed.{printed_fixed, printed_line, printed_number}
use Rattle.model_text.specs.Scale.{cost_decimals}
use Rattle.model_text.specs.declared.scale.Scale.{Scale}
use Rattle.cert_check.specs.declared.judged.Judged.{Judged}
use Rattle.cert_check.specs.declared.judged.Judged.TheVariants.{Accepted, NotConserved, OffCurve, OutOfCapacity, NotCircuit, Endless, WrongNumber, NotNegative}

abbrev pub kind_word : Certificate → List ℕ
kind_word (optimal x u cost value) = codes "optimal"
kind_word (cut side capacity) = codes "cut"
kind_word (circuit x walk span) = codes "circuit"

-- the decimals of a certificate's number: of a cost and a value, of a capacity, or of a span
abbrev pub number_decimals : Scale → Certificate → ℕ
number_decimals s (optimal x u cost value) = cost_decimals s
number_decimals s (cut side capacity) = s.flow
number_decimals s (circuit x walk span) = s.tension

-- the first line that no certificate's text has
abbrev pub bad_text_line : ℕ → List ℕ
bad_text_line line = printed_line (codes "rejected bad-text line") (printed_number (pos line) ∷ [])

-- the node or arc that a verdict names is one of the grounded network
abbrev pub NamesThere : Entries → Judged → Type 0
NamesThere m (NotConserved node) = node.0 ≤ length m.nodes
NamesThere m (OffCurve arc) = arc.0 < length m.nodes + length m.arcs
NamesThere m (OutOfCapacity arc) = arc.0 < length m.nodes + length m.arcs
NamesThere m (Endless arc) = arc.0 < length m.nodes + length m.arcs
NamesThere m verdict = Unit {0}

abbrev pub verdict_line : Scale → Entries → Certificate → Judged → List ℕ
verdict_line s m c Accepted = printed_line (codes "accepted") (kind_word c ∷ [])
verdict_line s m c (NotConserved node) = printed_line (codes "rejected not-conserved node") (node_name m node.0 ∷ [])
verdict_line s m c (OffCurve arc) = printed_line (codes "rejected off-curve") (arc_name m arc.0 ∷ [])
verdict_line s m c (OutOfCapacity arc) = printed_line (codes "rejected out-of-capacity") (arc_name m arc.0 ∷ [])
verdict_line s m c (NotCircuit number) = printed_line (codes "rejected not-circuit step") (printed_number (pos number) ∷ [])
verdict_line s m c (Endless arc) = printed_line (codes "rejected endless") (arc_name m arc.0 ∷ [])
verdict_line s m c (WrongNumber stated right) =
    printed_line (codes "rejected wrong-number stated")
    (printed_fixed (number_decimals s c) stated ∷ codes "right" ∷ printed_fixed (number_decimals s c) right ∷ [])
verdict_line s m c NotNegative = printed_line (codes "rejected not-negative") []
