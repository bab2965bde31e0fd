-- The text of `feasible`: its flow part and its tension part, each a yes with what is feasible, or a no with what refuses it.
use Rattle.std.specs.Prelude.{◌≡◌, ℕ, ◌+◌, ℤ, List, [], ◌∷◌, ◌++◌, length, codes}
use Rattle.std.specs.List.{flat_map}
use Rattle.theory.specs.Limits.{IsWithin, sum_most}
use Rattle.theory.specs.Network.{Network, «at»}
use Rattle.theory.specs.Grounded.{Entries, node_name}
use Rattle.theory.specs.Certificate.{AreNumbers, IsPotentialOf, IsWalkOf}
use Rattle.model_text.specs.Printed.{printed_fixed, printed_line}
use Rattle.model_text.specs.declared.scale.Scale.{Scale}
use Rattle.cert_text.specs.CertificateText.{texts_below, supply_lines, arc_lines, side_line, step_line}
use Rattle.cert_text.specs.declared.feasible.FlowPart.{FlowPart}
use Rattle.cert_text.specs.declared.feasible.FlowPart.TheVariants.{Yes as YesFlow, No as NoFlow}
use Rattle.cert_text.specs.declared.feasible.TensionPart.{TensionPart}
use Rattle.cert_text.specs.declared.feasible.TensionPart.TheVariants.{Yes as YesTension, No as NoTension}

-- the right counts, and numbers within the limits
abbrev pub FlowFits : Network → FlowPart → Type 0
FlowFits net (YesFlow x) = AreNumbers (length net.arcs) x
FlowFits net (NoFlow side capacity) = (length side ≡ net.nodes) × IsWithin sum_most capacity

abbrev pub TensionFits : Network → TensionPart → Type 0
TensionFits net (YesTension u) = IsPotentialOf net u
TensionFits net (NoTension walk span) = IsWalkOf net walk × IsWithin sum_most span

-- `node NAME U`: the potential of model node i
abbrev pub tension_line : Scale → Entries → List ℤ → ℕ → List ℕ
tension_line s m u i = printed_line (codes "node") (node_name m (i + 1) ∷ printed_fixed s.tension («at» u (i + 1)) ∷ [])

abbrev pub flow_text : Scale → Entries → FlowPart → List ℕ
flow_text s m (YesFlow x) = printed_line (codes "flow yes") [] ++ supply_lines s m x ++ arc_lines s m x
flow_text s m (NoFlow side capacity) =
    printed_line (codes "flow no") (printed_fixed s.flow capacity ∷ []) ++ texts_below (length m.nodes + 1) (side_line m side)

abbrev pub tension_text : Scale → Entries → TensionPart → List ℕ
tension_text s m (YesTension u) = printed_line (codes "tension yes") [] ++ texts_below (length m.nodes) (tension_line s m u)
tension_text s m (NoTension walk span) =
    printed_line (codes "tension no") (printed_fixed s.tension span ∷ []) ++ flat_map (step_line m) walk

abbrev pub feasibility_text : Scale → Entries → FlowPart → TensionPart → List ℕ
feasibility_text s m flow tension = flow_text s m flow ++ tension_text s m tension
